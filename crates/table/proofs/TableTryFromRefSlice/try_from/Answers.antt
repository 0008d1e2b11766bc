-- By what the check of the words finds.
use Rattle.std.proofs.Common.{sym, ◌∙◌}
use Rattle.std.proofs.lemmas.Result.{err_from_is_err_and}
use Rattle.table.proofs.Tables.{check-exactly}
use Rattle.table.proofs.TableTryFromRefSlice.try_from.Goals as goal

pub returns-in_err-check : goal.returns-in_err-check
returns-in_err-check g c =
    let p = err_from_is_err_and c.from_residual.result c.from_residual.ensures.1 in
    rw (p.1, p.2) (sym c.check.ensures ∙ c.in_err-check.was)

pub invariant_of-result : goal.invariant_of-result
invariant_of-result g c = record { right = ((check-exactly (g.U.Unit.words c.args.units.now) _).0 (sym c.check.ensures ∙ c.in_ok-check.was)).0 }
