-- The longer of two prefixes, as the code has them.
use Rattle.field.specs.Prefix.{longer_address, longer_length}
use Rattle.field.specs.declared.Prefix.{Prefix}

-- the longer prefix: its address and its length
abbrev pub longer : Prefix → Prefix → Prefix
longer p q = record {
  address = longer_address p.address p.length q.address q.length;
  length = longer_length p.length q.length;
}
