-- The words of a text that are left to a reader.
use Rattle.std.specs.Prelude.{◌+◌, ◌-◌, List, [], ◌∷◌, length, if◌then◌else◌, ◌==◌}
use Rattle.tokens.specs.Tokens.{Token, tokens_from}
use Rattle.tokens.specs.declared.Tokens.{Tokens}

-- the word that was found, and the words in the bytes behind it
unfoldable pub left : Tokens → List Token
left t =
    record { at = t.end - (length t.word.now + length t.rest.now); word = t.word.now }
    ∷ (if length t.word.now == 0 then [] else tokens_from (length t.rest.now) t.end t.rest.now)
