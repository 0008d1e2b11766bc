-- The next record, or none where less than one is left.
use Rattle.std.proofs.Common.{◌∷◌, sym, ap, ◌∙◌, length, arith}
use Rattle.words.specs.Records.{rows_of}
use Rattle.words.proofs.Going.{rows_of-none, rows_of-next}
use Rattle.words.proofs.spelling.RecordsIterator.next.Goals as goal

pub returns-then-self-WORDS-clause-steps : goal.returns-then-self-WORDS-clause-steps
returns-then-self-WORDS-clause-steps g c =
    let e = rows_of-none g.S.Spelling.WORDS g.S.Spelling.of_words c.args.self.now.words.now (omega (arith, c.if-self-WORDS.true, c.WORDS.ensures)) in (e, e)

pub returns-clause-steps : goal.returns-clause-steps
returns-clause-steps g c =
    rows_of-next g.S.Spelling.WORDS g.S.Spelling.of_words _ _ _ g.met.S.Spelling.some c.split_at.ensures.by_index.0
    (c.split_at.ensures.front_len ∙ c.WORDS-2.ensures)
    ∙ ap (λ r. r ∷ rows_of g.S.Spelling.WORDS g.S.Spelling.of_words c.split_at.result.1.now) (sym c.read.ensures)

pub returns-clause-goes : goal.returns-clause-goes
returns-clause-goes g c = let e = ap length (returns-clause-steps g c) in record { on = λ f. (tt, f, omega (arith, e)); keeps = tt; rests = λ _. tt }
