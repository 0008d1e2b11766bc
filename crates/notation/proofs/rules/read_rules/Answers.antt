use Rattle.std.proofs.Common.{◌-◌, suc, [], ◌∷◌, ◌++◌, ◌≡◌, sym, ◌∙◌, length, arith}
use Rattle.std.proofs.lemmas.Result.{err_from_is_err_and}
use Rattle.std.proofs.lemmas.List.{map_push, length-append}
use Rattle.tokens.specs.Left.{left}
use Rattle.notation.specs.Views.{rule_entry, rule_entries}
use Rattle.notation.proofs.Loops.{rules_end, rules_full, rules_step, rules_stop}
use Rattle.notation.proofs.rules.read_rules.Goals as goal

pub returns-then-len-room : goal.returns-then-len-room
returns-then-len-room c =
    rw (c.into.ensures, c.fault.ensures)
    (sym c.loop-alloc.invariant.0
    ∙ rules_full (c.args.room - length c.loop-alloc.rules.items) (rule_entries c.loop-alloc.rules.items)
    (left c.loop-alloc.tokens) (omega (arith, c.if-len-room.true, c.len.ensures)) cc)

pub returns-in_err-rule : goal.returns-in_err-rule
returns-in_err-rule c =
    let p = err_from_is_err_and c.from_residual.result c.from_residual.ensures.1 in
    rw (p.1, p.2, sym c.loop-alloc.invariant.0)
    (rules_stop c.in_err-rule.field-0.0 (c.args.room - length c.loop-alloc.rules.items)
    (c.args.room - suc (length c.loop-alloc.rules.items)) (rule_entries c.loop-alloc.rules.items)
    (left c.loop-alloc.tokens) (omega (arith, c.if-len-room.false, c.len.ensures, c.loop-alloc.invariant.1)) (cc)
    (rw (sym c.deref.ensures.value) c.in_err-rule.ensures))

pub loop-alloc-preserved : goal.loop-alloc-preserved
loop-alloc-preserved c =
    let e : rule_entries c.push.new.self.items ≡ rule_entries c.loop-alloc.rules.items ++ rule_entry c.in_ok-rule.rule ∷ [] =
    rw c.in_ok-push.ensures.items (map_push _ c.loop-alloc.rules.items c.in_ok-rule.rule) in
    let n : length c.push.new.self.items ≡ suc (length c.loop-alloc.rules.items) =
    rw c.in_ok-push.ensures.items (omega (arith, length-append c.loop-alloc.rules.items (c.in_ok-rule.rule ∷ []))) in (
      rw (e, n) (sym (rules_step (c.args.room - length c.loop-alloc.rules.items) (c.args.room - suc (length c.loop-alloc.rules.items))
          (rule_entries c.loop-alloc.rules.items) (left c.loop-alloc.tokens) (rule_entry c.in_ok-rule.rule) (left c.read_rule.new.tokens)
          (omega (arith, c.if-len-room.false, c.len.ensures, c.loop-alloc.invariant.1)) (cc) (rw (sym c.deref.ensures.value) c.in_ok-rule.ensures))
          ∙ c.loop-alloc.invariant.0),
      rw n (omega (arith, c.if-len-room.false, c.len.ensures, c.loop-alloc.invariant.1)),
    )

pub returns : goal.returns
returns c =
    sym c.loop-alloc.invariant.0
    ∙ rules_end (c.args.room - length c.loop-alloc.rules.items) (rule_entries c.loop-alloc.rules.items) (left c.loop-alloc.tokens) cc
