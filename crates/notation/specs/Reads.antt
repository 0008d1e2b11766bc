-- What a reader gives: a value and the words behind it, or the first fault. A reader is a function of the words that
-- are left.
--
--   Read X           a value and the words behind it, or a fault
--   r >>= f          f goes on where r ended
--   fails, wrong     a fault at the first word
--   allowed          a test that is to be met at the first word
--   taken w wanted   the word w, which is wanted
--   some_or wanted   a value of the first word, if it has one
--   gave, went       what a function gave that needs no memory
--   Reads view       what a function gives is what the reader gives, unless memory ran out; Gives of a function that
--                    reads no words
use Rattle.std.specs.Prelude.{ℕ, ◌≡◌, Bool, List, Option, Some, None, Result, Ok, Err, if◌then◌else◌, ⊤}
use Rattle.tokens.specs.Tokens.{Token, at, next, is}
use Rattle.notation.specs.declared.fault.Fault.{Fault}
use Rattle.notation.specs.declared.fault.Reason.{Reason}
use Rattle.notation.specs.declared.fault.Reason.TheVariants.{Unexpected}
use Rattle.notation.specs.declared.fault.Wanted.{Wanted}
use Rattle.notation.specs.declared.fault.ReadError.{ReadError}
use Rattle.notation.specs.declared.fault.ReadError.TheVariants as errors

-- a value and the words behind it, or a fault
abbrev pub Read : Type 0 → Type 0
Read X = Result (X × List Token) Fault

-- one reader after another
infixl 10 ◌>>=◌
abbrev pub ◌>>=◌ : {X Y : Type 0} → Result X Fault → (X → Result Y Fault) → Result Y Fault
(Ok x) >>= f = f x
(Err e) >>= f = Err e

-- a fault at a place
abbrev pub fault_at : ℕ → Reason → Fault
fault_at place why = record { at = place; reason = why }

-- a fault at the first word
abbrev pub fails : {X : Type 0} → Reason → List Token → Result X Fault
fails why ts = Err (fault_at (at ts) why)

-- the first word is not what was wanted
abbrev pub wrong : {X : Type 0} → Wanted → List Token → Result X Fault
wrong wanted ts = fails (Unexpected wanted) ts

-- nothing where a test is met, else a fault at the first word
abbrev pub allowed : Bool → Reason → List Token → Result ⊤ Fault
allowed good why ts = if good then Ok tt else fails why ts

-- the words behind the word w
unfoldable pub taken : List ℕ → Wanted → List Token → Result (List Token) Fault
taken w wanted ts = if is w ts then Ok (next ts) else wrong wanted ts

-- a value that the first word may have
abbrev pub some_or : {X : Type 0} → Wanted → Option X → List Token → Read X
some_or wanted (Some x) ts = Ok (x, next ts)
some_or wanted None ts = wrong wanted ts

-- what a function gave that needs no memory, with the words that are left behind it
abbrev pub gave : {X : Type 0} → Result X Fault → List Token → Read X
gave (Ok x) ts = Ok (x, ts)
gave (Err f) ts = Err f

-- the same of a function that gives nothing but the words that are left
abbrev pub went : {X : Type 0} → Result X Fault → List Token → Result (List Token) Fault
went (Ok x) ts = Ok ts
went (Err f) ts = Err f

-- a function's error is the reader's fault, unless memory ran out
abbrev pub Fails : {X : Type 0} → ReadError → Result X Fault → Type 0
Fails errors.Memory read = Unit {0}
Fails (errors.Fault f) read = read ≡ Err f

-- what a function gave, seen by view, with the words that are left behind it, is what the reader gives
abbrev pub Reads : {X Y : Type 0} → (X → Y) → Result X ReadError → List Token → Read Y → Type 0
Reads view (Ok x) ts read = read ≡ Ok (view x, ts)
Reads view (Err e) ts read = Fails e read

-- the same of a function that reads no words
abbrev pub Gives : {X Y : Type 0} → (X → Y) → Result X ReadError → Result Y Fault → Type 0
Gives view (Ok x) read = read ≡ Ok (view x)
Gives view (Err e) read = Fails e read
