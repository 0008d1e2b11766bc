-- What is found first among the levels and rows before is what the search finds.
use Rattle.std.proofs.Common.{◌≡◌, ◌∙◌, sym, ap, take, arith, rules, tests}
use lib.Seq.{length-take-le}
use Rattle.std.proofs.lemmas.Iterator.{YieldsList-from_slice, YieldsList-from_zip}
use Rattle.std.proofs.lemmas.Iterator.Consumers.{YieldsList-at}
use Rattle.std.proofs.lemmas.Iterator.Search.{position_from_yields_List}
use Rattle.std.specs.List.{position, zip}
use Rattle.std.specs.Option.{unwrap_or}
use Rattle.table.proofs.Lying.{rows-count}
use Rattle.priority.proofs.Lying.{lying-test, lying-step}
use Rattle.priority.proofs.Place.step_back.Goals as goal

pub slice_bounds-zip-end : goal.slice_bounds-zip-end
slice_bounds-zip-end g c =
    let ws = g.U.Unit.words c.args.table.units.now in
    sym (length-take-le c.args.self.0 c.rows.result.now
    (omega (arith, c.requires.many, c.requires.within, rows-count g.U.Row.LyingRow.row_words ws c.rows.result.now c.rows.ensures)))

pub returns : goal.returns
returns g c =
    let word = g.U.Word.LyingWord.word in
    let words_of = g.U.Row.LyingRow.row_words in
    let ws = g.U.Unit.words c.args.table.units.now in
    let ls = g.U.Unit.words c.args.levels.now in
    let i = c.args.self.0 in
    let lying = c.words.result.now in
    let rows = c.rows.result.now in
    let m = c.match_at-m.result in
    let given : c.zip.result.b.rest.now ≡ take i rows = c.zip.ensures.second.0 in
    let pairs = YieldsList-from_zip (YieldsList-at c.zip.ensures.first (YieldsList-from_slice (take i lying) c.iter.ensures.rest))
    (YieldsList-from_slice (take i rows) given) in
    let test = lying-test word words_of m c.args.l in
    let found : c.position-found.result ≡ position test (zip (take i lying) (take i rows)) =
    position_from_yields_List test c.position-found.new.self _ c.position-found.result c.position-found.ensures.ran pairs
    (λ x b q k. search (rules, tests)) in
    c.unwrap_or.ensures ∙ ap (λ o. unwrap_or o i) found
    ∙ lying-step word ls lying c.words.ensures words_of ws rows i c.args.l m c.match_at-m.ensures c.rows.ensures c.requires.within c.requires.many
