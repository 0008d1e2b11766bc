-- Records as the chunks that an iterator gives: at each turn those that are left are the next and those behind it.
use Prim.Native.Nat.{ℕ, zero, suc, ◌+◌, ◌-◌, ◌*◌, ◌/◌, ◌≤◌, ◌<◌}
use native.Mathlib.Omega.{arith}
use native.Mathlib.Numerals.{add-one}
use native.Mathlib.Nat.{add-div_right, div-eq_of_lt}
use mathlib.Core.Path.{◌≡◌, sym, ap, ◌∙◌}
use mathlib.Core.List.{List, [], ◌∷◌, ◌++◌}
use lib.ListN.{length, take, drop, length-append, length-drop}
use lib.Seq.{take-add, length-take-le}
use Rattle.std.proofs.Math.Seq.{take-append_seam, drop-append_seam}
use Rattle.std.specs.Slice.Iter.{chunks_exact_steps}
use Rattle.std.specs.Iterator.Adapters.{enumerate_steps}
use Rattle.std.specs.declared.slice.ChunksExact.{ChunksExact}
use Rattle.std.specs.declared.iter.Enumerate.{Enumerate}
use Rattle.std.specs.Prelude.{Some, None}
use Rattle.std.specs.Borrow.{Bor}
use Rattle.words.specs.Records.{records}
use Rattle.words.proofs.RecordLaws.{length-records}

-- the records of k words that a list of words holds
abbrev pub whole : ℕ → List ℕ → List (List ℕ)
whole k ws = records (length ws / k) k ws

-- those that an iterator over chunks still has to give
abbrev pub left : ℕ → ChunksExact ℕ → List (List ℕ)
left k s = whole k s.rest.now

-- the first record and those behind it
pub whole-next : (k : ℕ) (x r : List ℕ) → 0 < k → length x ≡ k → whole k (x ++ r) ≡ x ∷ whole k r
whole-next k x r pos e =
    let n : length (x ++ r) ≡ length r + k = rw length-append (omega arith) in
    let c : length (x ++ r) / k ≡ suc (length r / k) = ap (λ m. m / k) n ∙ add-div_right (length r) pos ∙ add-one (length r / k) in
    let t : take k (x ++ r) ≡ x = ap (λ m. take m (x ++ r)) (sym e) ∙ take-append_seam x r in
    let d : drop k (x ++ r) ≡ r = ap (λ m. drop m (x ++ r)) (sym e) ∙ drop-append_seam x r in
    ap (λ m. records m k (x ++ r)) c ∙ rw (t, d)

pub whole-none : (k : ℕ) (r : List ℕ) → length r < k → whole k r ≡ []
whole-none k r h = ap (λ n. records n k r) (div-eq_of_lt h)

-- those of a part that holds n records
pub whole-part : (k n : ℕ) (ws : List ℕ) → 0 < k → k * n ≤ length ws → whole k (take (k * n) ws) ≡ records n k ws
whole-part k zero ws pos h = let e : k * 0 ≡ 0 = omega arith in rw e (whole-none k [] pos)
whole-part k (suc n) ws pos h =
    let e : k * suc n ≡ k + k * n = omega arith in
    let l : k * n ≤ length (drop k ws) = rw length-drop (omega arith) in
    ap (λ m. whole k (take m ws)) e
    ∙ ap (whole k) (take-add k (k * n) ws)
    ∙ whole-next k (take k ws) (take (k * n) (drop k ws)) pos (length-take-le k ws (omega arith))
    ∙ ap (λ rs. take k ws ∷ rs) (whole-part k n (drop k ws) pos l)

pub whole-range : (k n from to : ℕ) (ws : List ℕ) → 0 < k → to ≡ from + k * n → to ≤ length ws
    → whole k (take (to - from) (drop from ws)) ≡ records n k (drop from ws)
whole-range k n from to ws pos e h =
    let d : to - from ≡ k * n = omega arith in
    ap (λ m. whole k (take m (drop from ws))) d ∙ whole-part k n (drop from ws) pos (rw length-drop (omega arith))

-- a turn of a loop over chunks, and its end
pub left-next : (k : ℕ) (s t : ChunksExact ℕ) (x : Bor (List ℕ)) → 0 < k → s.size ≡ k → chunks_exact_steps s (Some x) t → left k s ≡ x.now ∷ left k t
left-next k s t x pos z g = ap (whole k) g.1.0 ∙ whole-next k x.now t.rest.now pos (g.1.1 ∙ z)

pub left-none : (k : ℕ) (s t : ChunksExact ℕ) → s.size ≡ k → chunks_exact_steps s None t → left k s ≡ []
left-none k s t z g = whole-none k s.rest.now (omega arith)

-- A loop over numbered chunks: the chunks are records of k words, and those given and those left are all that ws holds.
pub record Going (k : ℕ) (ws : List ℕ) (s : Enumerate (ChunksExact ℕ)) : Type 0 where
  pub size : s.iter.size ≡ k
  pub all : s.count + length (left k s.iter) ≡ length ws / k

-- its start, from what `chunks_exact`, `enumerate` and `into_iter` give
pub record Started (k : ℕ) (ws : List ℕ) (s : Enumerate (ChunksExact ℕ)) : Type 0 where
  pub going : Going k ws s
  pub none : s.count ≡ 0
  pub left : left k s.iter ≡ whole k ws

pub started :
    (k : ℕ) (ws : List ℕ) (c : ChunksExact ℕ) (e s : Enumerate (ChunksExact ℕ)) → c.rest.now ≡ ws → c.size ≡ k → e.iter ≡ c → e.count ≡ 0 → s ≡ e
    → Started k ws s
started k ws c e s r z i n p =
    let q : s.iter ≡ c = ap (λ (y : Enumerate (ChunksExact ℕ)). y.iter) p ∙ i in
    let l : left k s.iter ≡ whole k ws = ap (λ (y : ChunksExact ℕ). left k y) q ∙ ap (whole k) r in
    let m : s.count ≡ 0 = ap (λ (y : Enumerate (ChunksExact ℕ)). y.count) p ∙ n in
    let d : length (left k s.iter) ≡ length ws / k = ap length l ∙ length-records (length ws / k) k ws in
    record {
      going = record { size = ap (λ (y : ChunksExact ℕ). y.size) q ∙ z; all = omega arith };
      none = m;
      left = l;
    }

-- a turn: the number, the chunk and those behind it
pub record Numbered (k : ℕ) (ws : List ℕ) (s t : Enumerate (ChunksExact ℕ)) (i : ℕ) (x : List ℕ) : Type 0 where
  pub going : Going k ws t
  pub number : i ≡ s.count
  pub next : t.count ≡ s.count + 1
  pub more : left k s.iter ≡ x ∷ left k t.iter

pub numbered :
    (k : ℕ) (ws : List ℕ) (s t : Enumerate (ChunksExact ℕ)) (i : ℕ) (x : Bor (List ℕ)) → 0 < k → Going k ws s
    → enumerate_steps chunks_exact_steps s (Some (i, x)) t → Numbered k ws s t i x.now
numbered k ws s t i x pos h g =
    let l : left k s.iter ≡ x.now ∷ left k t.iter = left-next k s.iter t.iter x pos h.size g.0 in
    let n : length (left k s.iter) ≡ suc (length (left k t.iter)) = ap length l in
    record {
      going = record { size = g.0.0 ∙ h.size; all = omega (arith, h.all, g.2) };
      number = g.1;
      next = g.2;
      more = l;
    }

-- its end
pub record Ended (k : ℕ) (ws : List ℕ) (s : Enumerate (ChunksExact ℕ)) : Type 0 where
  pub count : s.count ≡ length ws / k
  pub none : left k s.iter ≡ []

pub ended : (k : ℕ) (ws : List ℕ) (s t : Enumerate (ChunksExact ℕ)) → Going k ws s → enumerate_steps chunks_exact_steps s None t → Ended k ws s
ended k ws s t h g =
    let l : left k s.iter ≡ [] = left-none k s.iter t.iter h.size g.0 in
    let n : length (left k s.iter) ≡ 0 = ap length l in
    record { count = omega (arith, h.all); none = l }
