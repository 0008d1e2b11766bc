-- A row against its words: written, then read, and read, then written. Assumes nothing.
use Rattle.std.proofs.Common.{ℕ, ◌*◌, arith, ◌≡◌, sym, ap, ap₂, ◌∙◌, true, List, [], ◌∷◌, ◌++◌, get_or, length, drop, drop_of_length-le, drop-cons}
use Rattle.words.proofs.RecordLaws.{length-flat}
use Rattle.theory.specs.declared.Row.{Row}
use Rattle.flow.specs.Match.{match_length, match_of, match_words}
use Rattle.flow.specs.declared.Match.{Match}
use Rattle.flow.proofs.Words.{match-read-words}
use Rattle.action.specs.Action.{kind_of, rate_of, action_of, right_action, in_range}
use Rattle.action.specs.declared.Action.{Action}
use Rattle.action.proofs.Words.{words-of-action, right-words}
use Rattle.row.specs.Spelled.{row-long}
use Rattle.row.specs.Row.{row_length, row_of, row_action, row_words, words_of, kind_place, rate_place, right_row_action}

-- rows have so many words
pub words_count : (N : List (Row Match Action)) → length (words_of N) ≡ length N * row_length
words_count N = length-flat row_length row_words row-long N

-- an action that some words have is in range where these are right
pub action-read : (ws : List ℕ) → right_row_action ws ≡ true → in_range (row_action ws) ≡ true
unfolding right_row_action row_action
action-read ws right =
    let k : ℕ = get_or ws kind_place 0 in
    let n : ℕ = get_or ws rate_place 0 in
    let w : (kind_of (action_of k n) ≡ k) × (rate_of (action_of k n) ≡ n) = words-of-action k n right in
    sym (right-words (action_of k n)) ∙ ap₂ right_action w.0 w.1 ∙ right

-- words with a right action are those of the row that they are
pub words_back : (ws : List ℕ) → length ws ≡ row_length → right_row_action ws ≡ true → row_words (row_of ws) ≡ ws
unfolding row_action right_row_action
words_back ws h right =
    let k : ℕ = get_or ws kind_place 0 in
    let n : ℕ = get_or ws rate_place 0 in
    let w : (kind_of (action_of k n) ≡ k) × (rate_of (action_of k n) ≡ n) = words-of-action k n right in
    let behind : drop match_length ws ≡ k ∷ n ∷ [] =
    drop-cons ws kind_place 0 (omega arith)
    ∙ ap (λ l. k ∷ l) (drop-cons ws rate_place 0 (omega arith) ∙ ap (λ l. n ∷ l) (drop_of_length-le ws {i = row_length} (omega arith))) in
    ap₂ (λ x y. match_words (match_of ws) ++ (x ∷ y ∷ [])) w.0 w.1
    ∙ ap (λ l. match_words (match_of ws) ++ l) (sym behind)
    ∙ match-read-words ws (omega arith)
