mod Filled
mod Same
mod Rows
