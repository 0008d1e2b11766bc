-- What a reader gave is what its parts gave.
use Rattle.std.proofs.Common.{◌≡◌, Bool, true, false, List, Option, Some, None, Result, Ok, Err, refl, ap}
use Rattle.std.specs.Prelude.{if◌then◌else◌}
use Rattle.tokens.specs.Tokens.{Token, next}
use Rattle.notation.specs.declared.fault.Fault.{Fault}
use Rattle.notation.specs.declared.fault.Wanted.{Wanted}
use Rattle.notation.specs.Reads.{Read, ◌>>=◌, some_or}

-- two readers one after another gave something: the first gave x, and the second gave it from there
pub bound : {X Y : Type 0} (r : Result X Fault) (f : X → Result Y Fault) (y : Y) → r >>= f ≡ Ok y
    → (x : X) × (r ≡ Ok x) × (f x ≡ Ok y)
bound (Ok x) f y e = (x, refl, e)
bound (Err g) f y e = absurd cc

-- a value and the words that are left, which a reader gave
abbrev pub given : {X : Type 0} → X → List Token → Read X
given x ts = Ok (x, ts)

-- two answers that are the same have the same value, and leave the same words
pub same-read : {X : Type 0} (x y : X) (ts us : List Token) → given x ts ≡ given y us → (x ≡ y) × (ts ≡ us)
same-read {X} x y ts us e =
    let p : (x, ts) ≡ (y, us) = cc in (ap (λ (q : X × List Token). q.0) p, ap (λ (q : X × List Token). q.1) p)

-- a first word has a value, and the others are left
pub some-given : {X : Type 0} (wanted : Wanted) (o : Option X) (ts : List Token) (x : X) (rest : List Token)
    → some_or wanted o ts ≡ Ok (x, rest) → (o ≡ Some x) × (next ts ≡ rest)
some-given wanted (Some y) ts x rest e = let p = same-read y x (next ts) rest e in (ap Some p.0, p.1)
some-given wanted None ts x rest e = absurd cc

-- a choice whose other side is a fault
pub passed : {X : Type 0} (c : Bool) (r : Result X Fault) (f : Fault) (x : X) → (if c then r else Err f) ≡ Ok x
    → (c ≡ true) × (r ≡ Ok x)
passed true r f x e = (refl, e)
passed false r f x e = absurd cc

-- a choice that gave something: one of its sides gave it
pub either : {X : Type 0} (P : Type 0) (c : Bool) (r s y : X) → (if c then r else s) ≡ y → (c ≡ true → r ≡ y → P) → (c ≡ false → s ≡ y → P) → P
either P true r s y e f g = f refl e
either P false r s y e f g = g refl e
