-- The first place of a level is that of the search.
use Rattle.std.proofs.Common.{◌≡◌, ◌∙◌, ap, length, rules, tests}
use Rattle.std.proofs.lemmas.Iterator.{YieldsList-from_slice}
use Rattle.std.proofs.lemmas.Iterator.Search.{position_from_yields_List}
use lib.Dec.{eqb}
use Rattle.std.specs.List.{position}
use Rattle.std.specs.Option.{unwrap_or}
use Rattle.priority.proofs.Lying.{lying-level}
use Rattle.priority.proofs.Place.first_of_level.Goals as goal

pub returns : goal.returns
returns g c =
    let word = g.U.Word.LyingWord.word in
    let lying = c.words-levels.result.now in
    let found : c.position.result ≡ position (λ w. eqb (word w) c.args.l) lying =
    position_from_yields_List (λ w. eqb (word w) c.args.l) _ _ c.position.result c.position.ensures.ran (YieldsList-from_slice lying c.iter.ensures.rest)
    (λ x b q k. search (rules, tests)) in
    c.unwrap_or.ensures ∙ ap (λ o. unwrap_or o (length lying)) found
    ∙ lying-level word (g.U.Unit.words c.args.levels.now) lying c.words-levels.ensures c.args.l
