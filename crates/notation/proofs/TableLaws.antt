-- The lines and the tables of operators are read exactly where they are written.
use Rattle.std.proofs.Common.{◌≡◌, ℕ, ◌<◌, ◌≤◌, List, [], ◌∷◌, ◌++◌, Some, None, Ok, length, refl, ap, subst, ◌∙◌, append_assoc, arith}
use Rattle.tokens.specs.Tokens.{Token, word, next}
use Rattle.tokens.specs.Theorems.{OneEnd}
use Rattle.action.specs.Operator.{largest_code, largest_rate_code}
use Rattle.values.specs.Numbers.{up_to}
use Rattle.values.specs.Words.{code_of}
use Rattle.values.proofs.AddressLaw.{limited, within}
use Rattle.notation.specs.declared.fault.Wanted.{Wanted}
use Rattle.notation.specs.declared.fault.Wanted.TheVariants as wanted
use Rattle.notation.specs.Words.{allow_word, deny_word, reserve_word, open_mark, close_mark}
use Rattle.notation.specs.Operators.{cell_at, line_at, columns_at, table_at}
use Rattle.notation.specs.Grammar.{IsLine, IsTable, IsOperator, IsOperators}
use Rattle.notation.specs.Grammar as grammar
use Rattle.notation.proofs.Bind.{bound}
use Rattle.notation.proofs.Took.{Took, took-then, Left}
use Rattle.notation.proofs.Taken.{Takes, Gets, some-takes, some-again, takes-same, taken-takes, taken-again}

-- ---- a line of cells

-- the empty word is no cell
no-cell : (largest : ℕ) → up_to largest (code_of []) ≡ None
unfolding code_of
no-cell largest = refl

-- a cell was taken
record Cell (n largest : ℕ) (ts rest : List Token) (x : ℕ) : Type 0 where
  code : code_of (word ts) ≡ Some x
  small : x ≤ largest
  took : Took n ts rest (word ts ∷ [])

-- what is read as a cell is one
cell-takes : (n largest : ℕ) (wanted : Wanted) (ts rest : List Token) (x : ℕ) → OneEnd n ts → cell_at largest wanted ts ≡ Ok (x, rest)
    → Cell n largest ts rest x
unfolding cell_at
cell-takes n largest wanted ts rest x e g =
    let s = some-takes n (λ w. up_to largest (code_of w)) wanted ts rest x (no-cell largest) e g in
    let l = limited largest (code_of (word ts)) x s.0 in
    record { code = l.1; small = l.0; took = s.1 }

-- a cell is read again
cell-again : (n largest : ℕ) (wanted : Wanted) (ts : List Token) (w : List ℕ) (more : List (List ℕ)) (x : ℕ) → code_of w ≡ Some x → x ≤ largest
    → Left n ts (w ∷ more) → (cell_at largest wanted ts ≡ Ok (x, next ts)) × Left n (next ts) more
unfolding cell_at
cell-again n largest wanted ts w more x c h l =
    let s = some-again n (λ v. up_to largest (code_of v)) wanted ts w more x (no-cell largest) (ap (up_to largest) c ∙ within largest x h) l in
    (rw s.0 refl, s.1)

-- what is read as a line is one
pub line-takes : (n : ℕ) (k : List ℕ) (heading : Wanted) (largest : ℕ) (last : Wanted) (ts rest : List Token) (xs : List ℕ) → 0 < length k → OneEnd n ts
    → line_at k heading largest last ts ≡ Ok (xs, rest) → Takes n ts rest (λ ws. IsLine k largest ws xs)
unfolding line_at
line-takes n k heading largest last ts rest xs long e g =
    let b = bound _ _ _ g in
    let x = bound _ _ _ b.2 in
    let y = bound _ _ _ x.2 in
    let z = bound _ _ _ y.2 in
    let t = taken-takes n k heading ts b.0 long e b.1 in
    let u = cell-takes n largest_code wanted.Cell b.0 x.0.1 x.0.0 t.ends x.1 in
    let v = cell-takes n largest_code wanted.Cell x.0.1 y.0.1 y.0.0 u.took.ends y.1 in
    let w = cell-takes n largest last y.0.1 z.0.1 z.0.0 v.took.ends z.1 in
    takes-same (IsLine k largest) n ts z.0.1 rest xs _ (record {
      words = k ∷ word b.0 ∷ word x.0.1 ∷ word y.0.1 ∷ [];
      took = took-then n ts b.0 z.0.1 _ _ t (took-then n b.0 x.0.1 z.0.1 _ _ u.took (took-then n x.0.1 y.0.1 z.0.1 _ _ v.took w.took));
      is = grammar.line u.code u.small v.code v.small w.code w.small;
    }) z.2

-- a line is read again
pub line-again : (n : ℕ) (k : List ℕ) (heading : Wanted) (largest : ℕ) (last : Wanted) (ts : List Token) (ws more : List (List ℕ)) (xs : List ℕ)
    → 0 < length k → IsLine k largest ws xs → Left n ts (ws ++ more) → Gets (List ℕ) n (line_at k heading largest last ts) xs more
unfolding line_at
line-again n k heading largest last ts ws more xs long (grammar.line {u} {v} {w} a ha b hb c hc) l =
    let t = taken-again n k heading ts (u ∷ v ∷ w ∷ more) long l in
    let x = cell-again n largest_code wanted.Cell (next ts) u (v ∷ w ∷ more) _ a ha t.1 in
    let y = cell-again n largest_code wanted.Cell (next (next ts)) v (w ∷ more) _ b hb x.1 in
    let z = cell-again n largest last (next (next (next ts))) w more _ c hc y.1 in
    record { rest = next (next (next (next ts))); gives = rw (t.0, x.0, y.0, z.0) refl; left = z.1 }

-- ---- a table

-- an opening brace is not empty
pub long-open : 0 < length open_mark
long-open = omega arith

-- nor is a closing one
pub long-close : 0 < length close_mark
long-close = omega arith

-- nor is a heading: allow
long-allow : 0 < length allow_word
long-allow = omega arith

-- deny
long-deny : 0 < length deny_word
long-deny = omega arith

-- reserve
long-reserve : 0 < length reserve_word
long-reserve = omega arith

-- the words of the columns
columns-takes : (n : ℕ) (ts rest : List Token) → OneEnd n ts → columns_at ts ≡ Ok rest → Took n ts rest (open_mark ∷ allow_word ∷ deny_word ∷ reserve_word ∷ [])
unfolding columns_at
columns-takes n ts rest e g =
    let o = bound _ _ _ g in
    let a = bound _ _ _ o.2 in
    let d = bound _ _ _ a.2 in
    let t = taken-takes n open_mark wanted.Table ts o.0 long-open e o.1 in
    let u = taken-takes n allow_word wanted.AllowHeading o.0 a.0 long-allow t.ends a.1 in
    let v = taken-takes n deny_word wanted.DenyHeading a.0 d.0 long-deny u.ends d.1 in
    let w = taken-takes n reserve_word wanted.ReserveHeading d.0 rest long-reserve v.ends d.2 in
    took-then n ts o.0 rest _ _ t (took-then n o.0 a.0 rest _ _ u (took-then n a.0 d.0 rest _ _ v w))

-- they are read again
columns-again : (n : ℕ) (ts : List Token) (more : List (List ℕ)) → Left n ts (open_mark ∷ allow_word ∷ deny_word ∷ reserve_word ∷ more)
    → (columns_at ts ≡ Ok (next (next (next (next ts))))) × Left n (next (next (next (next ts)))) more
unfolding columns_at
columns-again n ts more l =
    let t = taken-again n open_mark wanted.Table ts (allow_word ∷ deny_word ∷ reserve_word ∷ more) long-open l in
    let u = taken-again n allow_word wanted.AllowHeading (next ts) (deny_word ∷ reserve_word ∷ more) long-allow t.1 in
    let v = taken-again n deny_word wanted.DenyHeading (next (next ts)) (reserve_word ∷ more) long-deny u.1 in
    let w = taken-again n reserve_word wanted.ReserveHeading (next (next (next ts))) more long-reserve v.1 in
    (rw (t.0, u.0, v.0, w.0) refl, w.1)

-- what is read as a table is one
pub table-takes : (n : ℕ) (ts rest : List Token) (xs : List ℕ) → OneEnd n ts → table_at ts ≡ Ok (xs, rest) → Takes n ts rest (λ ws. IsTable ws xs)
unfolding table_at
table-takes n ts rest xs e g =
    let c = bound _ _ _ g in
    let a = bound _ _ _ c.2 in
    let d = bound _ _ _ a.2 in
    let r = bound _ _ _ d.2 in
    let z = bound _ _ _ r.2 in
    let t = columns-takes n ts c.0 e c.1 in
    let ta = line-takes n allow_word wanted.AllowHeading largest_code wanted.Cell c.0 a.0.1 a.0.0 long-allow t.ends a.1 in
    let td = line-takes n deny_word wanted.DenyHeading largest_code wanted.Cell a.0.1 d.0.1 d.0.0 long-deny ta.took.ends d.1 in
    let tr = line-takes n reserve_word wanted.ReserveHeading largest_rate_code wanted.RateCell d.0.1 r.0.1 r.0.0 long-reserve td.took.ends r.1 in
    let te = taken-takes n close_mark wanted.TableEnd r.0.1 z.0 long-close tr.took.ends z.1 in
    let ws1 : List (List ℕ) = tr.words ++ close_mark ∷ [] in
    let ws2 : List (List ℕ) = td.words ++ ws1 in
    let ws3 : List (List ℕ) = ta.words ++ ws2 in
    let t1 : Took n d.0.1 z.0 ws1 = took-then n d.0.1 r.0.1 z.0 tr.words (close_mark ∷ []) tr.took te in
    let t2 : Took n a.0.1 z.0 ws2 = took-then n a.0.1 d.0.1 z.0 td.words ws1 td.took t1 in
    let t3 : Took n c.0 z.0 ws3 = took-then n c.0 a.0.1 z.0 ta.words ws2 ta.took t2 in
    takes-same IsTable n ts z.0 rest xs (a.0.0 ++ (d.0.0 ++ r.0.0)) (record {
      words = open_mark ∷ allow_word ∷ deny_word ∷ reserve_word ∷ ws3;
      took = took-then n ts c.0 z.0 (open_mark ∷ allow_word ∷ deny_word ∷ reserve_word ∷ []) ws3 t t3;
      is = grammar.table ta.is td.is tr.is;
    }) z.2

-- a table is read again
pub table-again : (n : ℕ) (ts : List Token) (ws more : List (List ℕ)) (xs : List ℕ) → IsTable ws xs → Left n ts (ws ++ more)
    → Gets (List ℕ) n (table_at ts) xs more
unfolding table_at
table-again n ts ws more xs (grammar.table {a} {d} {r} {x} {y} {z} ia id ir) l =
    let e : (a ++ (d ++ (r ++ close_mark ∷ []))) ++ more ≡ a ++ (d ++ (r ++ (close_mark ∷ more))) = simp append_assoc in
    let l0 = subst (λ (v : List (List ℕ)). Left n ts (open_mark ∷ allow_word ∷ deny_word ∷ reserve_word ∷ v)) e l in
    let c = columns-again n ts (a ++ (d ++ (r ++ (close_mark ∷ more)))) l0 in
    let us = next (next (next (next ts))) in
    let ra = line-again n allow_word wanted.AllowHeading largest_code wanted.Cell us a (d ++ (r ++ (close_mark ∷ more))) x long-allow ia c.1 in
    let rd = line-again n deny_word wanted.DenyHeading largest_code wanted.Cell ra.rest d (r ++ (close_mark ∷ more)) y long-deny id ra.left in
    let rr = line-again n reserve_word wanted.ReserveHeading largest_rate_code wanted.RateCell rd.rest r (close_mark ∷ more) z long-reserve ir rd.left in
    let re = taken-again n close_mark wanted.TableEnd rr.rest more long-close rr.left in
    record { rest = next rr.rest; gives = rw (c.0, ra.gives, rd.gives, rr.gives, re.0) refl; left = re.1 }
