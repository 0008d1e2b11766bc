-- The last record, or none where less than one is left.
use Rattle.std.proofs.Common.{◌+◌, ◌-◌, ◌%◌, ◌∷◌, [], ◌++◌, sym, ap, ◌∙◌, length, length-append, arith}
use Rattle.words.specs.Records.{rows_of}
use Rattle.words.proofs.Going.{rows_of-none, rows_of-last}
use Rattle.words.proofs.spelling.RecordsDoubleEndedIterator.next_back.Goals as goal

pub returns-then-length-WORDS-clause-steps : goal.returns-then-length-WORDS-clause-steps
returns-then-length-WORDS-clause-steps g c =
    let e = rows_of-none g.S.Spelling.WORDS g.S.Spelling.of_words c.args.self.now.words.now (omega (arith, c.if-length-WORDS.true, c.WORDS.ensures)) in (e, e)

pub returns-clause-steps : goal.returns-clause-steps
returns-clause-steps g c =
    let n = length c.args.self.now.words.now in
    rows_of-last g.S.Spelling.WORDS g.S.Spelling.of_words _ _ _ _ _ g.met.S.Spelling.some (omega (arith, c.if-length-WORDS.false, c.WORDS.ensures))
    c.split_at.ensures.by_index.0 (c.split_at.ensures.front_len ∙ ap (λ k. n - n % k) c.WORDS-2.ensures) c.split_at-2.ensures.by_index.0
    (ap (λ k. length c.split_at-2.result.1.now + (length c.split_at.result.0.now - k)) (sym c.WORDS-3.ensures) ∙ c.split_at-2.ensures.back_len)
    ∙ ap (λ r. rows_of g.S.Spelling.WORDS g.S.Spelling.of_words c.split_at-2.result.0.now ++ (r ∷ [])) (sym c.read.ensures)

pub returns-clause-goes : goal.returns-clause-goes
returns-clause-goes g c =
    let e = ap length (returns-clause-steps g c) ∙ length-append (rows_of g.S.Spelling.WORDS g.S.Spelling.of_words c.split_at-2.result.0.now) _ in
    record { on = λ f. (tt, f, omega (arith, e)); keeps = tt; rests = λ _. tt }
