-- What is proved of messages. The law word-found in proofs/ proves WordFound.
use Rattle.std.specs.Prelude.{ℕ, ◌≡◌, List}
use Rattle.logic.specs.Lists.{All}
use Rattle.tokens.specs.Tokens.{tokens_of}
use Rattle.faults.specs.Cures.{word_at}

-- WHAT IS SHOWN AS FOUND IS A WORD OF THE TEXT: where one starts, it is that one, and at the end none
abbrev pub WordFound : Type 0
WordFound = (text : List ℕ) → All (λ t. word_at text t.at ≡ t.word) (tokens_of text)
