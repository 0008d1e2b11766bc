use Rattle.std.proofs.Common.{◌-◌, suc, [], ◌∷◌, ◌++◌, ◌≡◌, sym, ◌∙◌, length, arith}
use Rattle.std.proofs.lemmas.Result.{err_from_is_err_and}
use Rattle.std.proofs.lemmas.List.{map_push, length-append}
use Rattle.policy.specs.Numbers.{most_operators}
use Rattle.tokens.specs.Left.{left}
use Rattle.notation.specs.Views.{operator_entry, operator_entries}
use Rattle.notation.proofs.Loops.{operators_end, operators_full, operators_step, operators_stop}
use Rattle.notation.proofs.operators.read_operators.Goals as goal

pub returns-then-len-eq-MOST_OPERATORS : goal.returns-then-len-eq-MOST_OPERATORS
returns-then-len-eq-MOST_OPERATORS c =
    rw (c.into.ensures, c.fault.ensures)
    (sym c.loop-alloc.invariant.0
    ∙ operators_full (most_operators - length c.loop-alloc.operators.items) (operator_entries c.loop-alloc.operators.items)
    (left c.loop-alloc.tokens) (omega (arith, c.if-len-eq-MOST_OPERATORS.true, c.len.ensures)) cc)

pub returns-in_err-operator : goal.returns-in_err-operator
returns-in_err-operator c =
    let p = err_from_is_err_and c.from_residual.result c.from_residual.ensures.1 in
    rw (p.1, p.2, sym c.loop-alloc.invariant.0)
    (operators_stop c.in_err-operator.field-0.0 (most_operators - length c.loop-alloc.operators.items)
    (most_operators - suc (length c.loop-alloc.operators.items)) (operator_entries c.loop-alloc.operators.items)
    (left c.loop-alloc.tokens) (omega (arith, c.if-len-eq-MOST_OPERATORS.false, c.len.ensures, c.loop-alloc.invariant.1)) (cc)
    (rw (sym c.deref.ensures.value, sym c.advance.ensures) c.in_err-operator.ensures))

pub loop-alloc-preserved : goal.loop-alloc-preserved
loop-alloc-preserved c =
    let e : operator_entries c.push.new.self.items ≡ operator_entries c.loop-alloc.operators.items ++ operator_entry c.in_ok-operator.operator ∷ [] =
    rw c.in_ok-push.ensures.items (map_push _ c.loop-alloc.operators.items c.in_ok-operator.operator) in
    let n : length c.push.new.self.items ≡ suc (length c.loop-alloc.operators.items) =
    rw c.in_ok-push.ensures.items
    (omega (arith, length-append c.loop-alloc.operators.items (c.in_ok-operator.operator ∷ []))) in (
      rw (e, n) (sym (operators_step (most_operators - length c.loop-alloc.operators.items) (most_operators - suc (length c.loop-alloc.operators.items))
          (operator_entries c.loop-alloc.operators.items) (left c.loop-alloc.tokens) (operator_entry c.in_ok-operator.operator)
          (left c.read_operator.new.tokens)
          (omega (arith, c.if-len-eq-MOST_OPERATORS.false, c.len.ensures, c.loop-alloc.invariant.1)) (cc)
          (rw (sym c.deref.ensures.value, sym c.advance.ensures) c.in_ok-operator.ensures))
          ∙ c.loop-alloc.invariant.0),
      rw n (omega (arith, c.if-len-eq-MOST_OPERATORS.false, c.len.ensures, c.loop-alloc.invariant.1)),
    )

pub returns : goal.returns
returns c =
    sym c.loop-alloc.invariant.0
    ∙ operators_end (most_operators - length c.loop-alloc.operators.items) (operator_entries c.loop-alloc.operators.items) (left c.loop-alloc.tokens) cc
