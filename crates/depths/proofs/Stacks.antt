-- Depths and child counts say the same: what an open node has still to come is how many children it has among the nodes behind. Assumes nothing.
use Rattle.std.proofs.Common.{ℕ, zero, suc, ◌≤◌, ◌<◌, arith, ◌≡◌, refl, sym, ap, ap₂, ◌∙◌, subst, ◌&&◌, List, [], ◌∷◌, map, length, drop, get_or}
use Rattle.std.proofs.Common.{eqb, leb, le-leb, eqb-true, eq-eqb, ne_eqb, leb-true, Ok, Err}
use Rattle.std.specs.Prelude.{⊤}
use borrow.Author.Tests.{lt-leb}
use Rattle.logic.specs.Lists.{All}
use Rattle.logic.proofs.Tests.{by-test, by_le, and_left, and_right}
use Rattle.refusal.specs.Refusals.{refusal_at}
use Rattle.refusal.specs.declared.Reason.TheVariants.{NoTree}
use Rattle.policy.specs.Numbers.{deepest}
use Rattle.policy.specs.Whole.{waiting_nodes, one_less, shape}
use Rattle.policy.proofs.Records.{unless-true}
use Rattle.policy.proofs.Trees.{shape-one-tree, one-tree-shape}
use Rattle.depths.specs.Depths.{Below, Nested, children, child_counts, depths_from, depths_of}
use Rattle.depths.specs.Theorems.{NestedTree, DepthsFit, TreeNested, NestedBack, FewChildren}

-- the children of a node where the first node behind it is not deeper
pub children-end : (d e : ℕ) (es : List ℕ) → e ≤ d → children d (e ∷ es) ≡ 0
children-end d e es h = rw (le-leb e d h)

-- where it is a child
pub children-next : (d : ℕ) (es : List ℕ) → children d (suc d ∷ es) ≡ suc (children d es)
children-next d es = rw (lt-leb (suc d) d (omega arith), eq-eqb (suc d) (suc d) refl) (omega arith)

-- and where it is deeper than a child
pub children-inner : (d e : ℕ) (es : List ℕ) → suc d < e → children d (e ∷ es) ≡ children d es
children-inner d e es h = rw (lt-leb e d (omega arith), ne_eqb e (suc d) (λ q. omega arith)) (omega arith)

-- by which of the three it is
by_place : {Z : Type 0} (d e : ℕ) → (e ≤ d → Z) → (e ≡ suc d → Z) → (suc d < e → Z) → Z
by_place d e f g h = by_le e d f (λ l. by_le e (suc d) (λ m. g (omega arith)) h)

-- depths behind one of a depth, each at most one deeper than the one before; the root may be among them
abbrev Under : ℕ → List ℕ → Type 0
Under d [] = ⊤
Under d (e ∷ es) = (1 ≤ e) × (e ≤ suc d) × (e ≤ deepest) × Under e es

-- depths below the root are such
below-under : (d : ℕ) (ds : List ℕ) → Below d ds → Under d ds
below-under d [] b = tt
below-under d (e ∷ es) b = (omega (arith, b.0), b.1, b.2, below-under e es b.3)

-- none of them is the root's
below-roots : (d : ℕ) (ds : List ℕ) → Below d ds → children 0 ds ≡ 0
below-roots d [] b = refl
below-roots d (e ∷ es) b = children-inner 0 e es (omega (arith, b.0)) ∙ below-roots e es b.3

-- without the root's they are below it
under-below : (d : ℕ) (ds : List ℕ) → Under d ds → children 0 ds ≡ 0 → Below d ds
under-below d [] u h = tt
under-below d (e ∷ es) u h = by_place 0 e
    (λ l. absurd (omega (arith, u.0)))
    (λ q. absurd (let n : suc (children 0 es) ≡ 0 = sym (children-next 0 es) ∙ rw q at h in omega arith))
    (λ l. (omega arith, u.1, u.2, under-below e es u.3 (sym (children-inner 0 e es l) ∙ h)))

-- what the n open nodes, the innermost first, have still to come among the nodes behind
abbrev opens : ℕ → List ℕ → List ℕ
opens zero ds = []
opens (suc d) ds = children d ds ∷ opens d ds

-- they are n
length-opens : (n : ℕ) (ds : List ℕ) → length (opens n ds) ≡ n
length-opens zero ds = refl
length-opens (suc d) ds = ap suc (length-opens d ds)

-- a node that is none of their children
opens-inner : (n f : ℕ) (es : List ℕ) → n ≤ f → opens n (suc f ∷ es) ≡ opens n es
opens-inner zero f es h = refl
opens-inner (suc d) f es h = ap₂ (λ (k : ℕ) (st : List ℕ). k ∷ st) (children-inner d (suc f) es (omega arith)) (opens-inner d f es (omega arith))

-- where it is the innermost, it waits
opens-child : (f : ℕ) (es : List ℕ) → waiting_nodes (opens (suc f) (suc f ∷ es)) ≡ suc (children f es) ∷ opens f es
opens-child f es =
    ap (λ k. waiting_nodes (k ∷ opens f (suc f ∷ es))) (children-next f es)
    ∙ ap (λ st. suc (children f es) ∷ st) (opens-inner f f es (omega arith))

-- the node above the next one is the innermost that waits
opens-wait : (n f : ℕ) (es : List ℕ) → f < n → waiting_nodes (opens n (suc f ∷ es)) ≡ suc (children f es) ∷ opens f es
opens-wait zero f es h = absurd (omega arith)
opens-wait (suc d) f es h = by_le (suc f) d
    (λ l. ap (λ k. waiting_nodes (k ∷ opens d (suc f ∷ es))) (children-end d (suc f) es l) ∙ opens-wait d f es l)
    (λ l. subst (λ (n : ℕ). waiting_nodes (opens (suc n) (suc f ∷ es)) ≡ suc (children f es) ∷ opens f es) (omega arith) (opens-child f es))

-- where no node comes none waits
opens-none : (n : ℕ) → waiting_nodes (opens n []) ≡ []
opens-none zero = refl
opens-none (suc d) = opens-none d

-- depths are those of their child counts, with what the open nodes have still to come
back : (d : ℕ) (ds : List ℕ) → Under d ds → depths_from (opens (suc d) ds) (child_counts ds) ≡ ds
back d [] u = refl
back d (zero ∷ es) u = absurd (omega (arith, u.0))
back d (suc f ∷ es) u = rw (opens-wait (suc d) f es (omega (arith, u.1)), length-opens f es) (ap (λ (l : List ℕ). suc f ∷ l) (back (suc f) es u.3))

-- the root's depth and others below it
record Rooted (ds : List ℕ) : Type 0 where
  others : List ℕ
  root : 1 ∷ others ≡ ds
  below : Below 1 others

-- nested depths are such
rooted : (ds : List ℕ) → Nested ds → Rooted ds
rooted [] n = absurd n
rooted (d ∷ ds) n = record { others = ds; root = ap (λ (e : ℕ). e ∷ ds) (sym n.0); below = subst (λ (e : ℕ). Below e ds) n.0 n.1 }

-- the root is awaited
root-opens : (es : List ℕ) → Below 1 es → opens 1 (1 ∷ es) ≡ 1 ∷ []
root-opens es b = ap (λ (k : ℕ). k ∷ []) (children-next 0 es ∙ ap suc (below-roots 1 es b))

-- and its depth is allowed
root-under : (es : List ℕ) → Below 1 es → Under 0 (1 ∷ es)
root-under es b = (omega arith, omega arith, omega arith, below-under 1 es b)

-- NESTED DEPTHS ARE THOSE OF THEIR CHILD COUNTS
pub nested-back : NestedBack
nested-back ds n =
    let r : Rooted ds = rooted ds n in
    let es : List ℕ = r.others in
    let e : depths_of (child_counts (1 ∷ es)) ≡ 1 ∷ es =
    subst (λ st. depths_from st (child_counts (1 ∷ es)) ≡ 1 ∷ es) (root-opens es r.below) (back 0 (1 ∷ es) (root-under es r.below)) in
    subst (λ l. depths_of (child_counts l) ≡ l) r.root e

-- they pass the shape test
back-shape : (d i : ℕ) (ds : List ℕ) → Under d ds → shape (child_counts ds) (opens (suc d) ds) i ≡ Ok tt
back-shape d i [] u = rw (opens-none (suc d))
back-shape d i (zero ∷ es) u = absurd (omega (arith, u.0))
back-shape d i (suc f ∷ es) u =
    rw (opens-wait (suc d) f es (omega (arith, u.1)), length-opens f es, le-leb 1 (suc f) (omega arith), le-leb (suc f) deepest (omega (arith, u.2)))
    (back-shape (suc f) (suc i) es u.3)

-- NODES WITH THE CHILD COUNTS OF NESTED DEPTHS ARE ONE TREE
pub nested-tree : {X : Type 0} → NestedTree X
nested-tree ns ds n e =
    let r : Rooted ds = rooted ds n in
    let es : List ℕ = r.others in
    let c : child_counts (1 ∷ es) ≡ map (λ n. n.child_count) ns = ap child_counts r.root ∙ sym e in
    let s : shape (child_counts (1 ∷ es)) (1 ∷ []) 0 ≡ Ok tt =
    subst (λ st. shape (child_counts (1 ∷ es)) st 0 ≡ Ok tt) (root-opens es r.below) (back-shape 0 0 (1 ∷ es) (root-under es r.below)) in
    shape-one-tree ns (subst (λ ks. shape ks (1 ∷ []) 0 ≡ Ok tt) c s)

-- a stack is what its nodes have still to come among some nodes, and these have depths
record Fit (d : ℕ) (st ks : List ℕ) : Type 0 where
  under : Under d (depths_from st ks)
  open_nodes : st ≡ opens (suc d) (depths_from st ks)
  counts : child_counts (depths_from st ks) ≡ ks

-- a stack of which none waits
idle : (st : List ℕ) → waiting_nodes st ≡ [] → st ≡ opens (length st) []
idle [] e = refl
idle (zero ∷ st) e = ap (λ (l : List ℕ). 0 ∷ l) (idle st e)
idle (suc n ∷ st) e = let z : ◌≡◌ {A = ℕ} 0 1 = cc in absurd (omega arith)

-- the innermost node that waits
record Waiting (st : List ℕ) : Type 0 where
  more : ℕ
  above : List ℕ
  is : waiting_nodes st ≡ suc more ∷ above

-- where some node waits
waiting : (st : List ℕ) → 1 ≤ length (waiting_nodes st) → Waiting st
waiting [] h = absurd (omega arith)
waiting (zero ∷ st) h = let w : Waiting st = waiting st h in record { more = w.more; above = w.above; is = w.is }
waiting (suc n ∷ st) h = record { more = n; above = st; is = refl }

-- no more wait than there are
few-wait : (st : List ℕ) → length (waiting_nodes st) ≤ length st
few-wait [] = omega arith
few-wait (zero ∷ st) = omega (arith, few-wait st)
few-wait (suc n ∷ st) = omega arith

-- the stack before a node, by the one behind it
refill : (st : List ℕ) (f : ℕ) (es : List ℕ) → waiting_nodes st ≡ suc (children f es) ∷ opens f es → st ≡ opens (length st) (suc f ∷ es)
refill [] f es e = let z : ◌≡◌ {A = ℕ} 0 1 = cc in absurd (omega arith)
refill (zero ∷ st) f es e =
    let l : length (waiting_nodes st) ≡ suc f = ap length e ∙ ap suc (length-opens f es) in
    ap₂ (λ (k : ℕ) (s : List ℕ). k ∷ s) (sym (children-end (length st) (suc f) es (omega (arith, few-wait st)))) (refill st f es e)
refill (suc n ∷ st) f es e =
    let l : length st ≡ f = omega (arith, ap length e, length-opens f es) in
    e ∙ ap₂ (λ (k : ℕ) (s : List ℕ). k ∷ s) (sym (children-next f es)) (sym (opens-inner f f es (omega arith)))
    ∙ ap (λ (n : ℕ). opens (suc n) (suc f ∷ es)) (sym l)

-- the stack before a node fits where the one behind it does
fit-step : (d k c : ℕ) (st o ks : List ℕ) → length st ≡ suc d → waiting_nodes st ≡ suc c ∷ o → suc (length o) ≤ deepest → Fit (suc (length o)) (k ∷ c ∷ o) ks
    → Fit d st (k ∷ ks)
fit-step d k c st o ks l e h f =
    let m : ℕ = length o in
    let es : List ℕ = depths_from (k ∷ c ∷ o) ks in
    let p : suc m ∷ es ≡ depths_from st (k ∷ ks) = rw e in
    let s : c ∷ o ≡ children m es ∷ opens m es = ap (drop 1) f.open_nodes in
    let w : waiting_nodes st ≡ suc (children m es) ∷ opens m es = e ∙ ap (λ l. suc (get_or l 0 0) ∷ drop 1 l) s in
    let q : st ≡ opens (suc d) (suc m ∷ es) = subst (λ (n : ℕ). st ≡ opens n (suc m ∷ es)) l (refill st m es w) in
    let u : Under d (suc m ∷ es) = (omega arith, omega (arith, few-wait st, ap length e), h, f.under) in
    let n : child_counts (suc m ∷ es) ≡ k ∷ ks = ap₂ (λ (k : ℕ) (l : List ℕ). k ∷ l) (sym (ap (λ l. get_or l 0 0) f.open_nodes)) f.counts in
    record {
      under = subst (λ l. Under d l) p u;
      open_nodes = subst (λ l. st ≡ opens (suc d) l) p q;
      counts = subst (λ l. child_counts l ≡ k ∷ ks) p n;
    }

-- what has no length is empty
none-left : (st : List ℕ) → length st ≡ 0 → st ≡ []
none-left [] h = refl
none-left (n ∷ st) h = absurd (omega arith)

-- what passes the shape test has its depths
shape-fit : (ks st : List ℕ) (d i : ℕ) → length st ≡ suc d → shape ks st i ≡ Ok tt → Fit d st ks
shape-fit [] st d i l e =
    let s : List ℕ = waiting_nodes st in
    let h : s ≡ [] = none-left s (eqb-true _ _ (unless-true (eqb (length s) 0) NoTree i e)) in
    record { under = tt; open_nodes = subst (λ (n : ℕ). st ≡ opens n []) l (idle st h); counts = refl }
shape-fit (k ∷ ks) st d i l e =
    let s : List ℕ = waiting_nodes st in
    by-test (leb 1 (length s) && leb (length s) deepest)
    (λ t.
    let waits : 1 ≤ length s = leb-true 1 (length s) (and_left (leb 1 (length s)) (leb (length s) deepest) t) in
    let few : length s ≤ deepest = leb-true (length s) deepest (and_right (leb 1 (length s)) (leb (length s) deepest) t) in
    let w : Waiting st = waiting st waits in
    let next : shape ks (k ∷ one_less s) (suc i) ≡ Ok tt = rw t at e in
    let left : shape ks (k ∷ w.more ∷ w.above) (suc i) ≡ Ok tt = subst (λ s. shape ks (k ∷ one_less s) (suc i) ≡ Ok tt) w.is next in
    fit-step d k w.more st w.above ks l w.is (omega (arith, ap length w.is)) (shape-fit ks (k ∷ w.more ∷ w.above) (suc (length w.above)) (suc i) refl left))
    (λ t. let z : Err (refusal_at NoTree i) ≡ Ok tt = rw t at e in cc)

-- what stands behind the root
fit-nested : (k : ℕ) (ks : List ℕ) → Fit 1 (k ∷ 0 ∷ []) ks → DepthsFit (k ∷ ks)
fit-nested k ks f =
    let ds : List ℕ = depths_from (k ∷ 0 ∷ []) ks in
    let c : children 1 ds ≡ k = sym (ap (λ l. get_or l 0 0) f.open_nodes) in
    let z : children 0 ds ≡ 0 = sym (ap (λ l. get_or l 1 0) f.open_nodes) in
    record { nested = (refl, under-below 1 ds f.under z); counts = ap₂ (λ (k : ℕ) (l : List ℕ). k ∷ l) c f.counts }

-- what is one tree by the shape test
fits : (ks : List ℕ) → shape ks (1 ∷ []) 0 ≡ Ok tt → DepthsFit ks
fits [] e = let z : ◌≡◌ {A = ℕ} 0 1 = cc in absurd (omega arith)
fits (k ∷ ks) e = fit-nested k ks (shape-fit ks (k ∷ 0 ∷ []) 1 1 refl e)

-- THE NODES OF ONE TREE HAVE NESTED DEPTHS, and the child counts of these
pub tree-nested : {X : Type 0} → TreeNested X
tree-nested ns o = fits (map (λ n. n.child_count) ns) (one-tree-shape ns o)

-- no more children than nodes behind
children-few : (d : ℕ) (ds : List ℕ) → children d ds ≤ length ds
children-few d [] = omega arith
children-few d (e ∷ es) = by_place d e
    (λ l. omega (arith, children-end d e es l))
    (λ q. rw q (omega (arith, children-next d es, children-few d es)))
    (λ l. omega (arith, children-inner d e es l, children-few d es))

-- of some of the nodes
counts-few : (n : ℕ) (ds : List ℕ) → length ds ≤ n → All (λ k. k < n) (child_counts ds)
counts-few n [] h = tt
counts-few n (d ∷ ds) h = (omega (arith, children-few d ds), counts-few n ds (omega arith))

-- A NODE HAS FEWER CHILDREN THAN THERE ARE NODES
pub few-children : FewChildren
few-children ds = counts-few (length ds) ds (omega arith)

-- there are as many child counts as depths
pub counts-length : (ds : List ℕ) → length (child_counts ds) ≡ length ds
counts-length [] = refl
counts-length (d ∷ ds) = ap suc (counts-length ds)

-- and as many depths as child counts, with a stack
depths-from-length : (st ks : List ℕ) → length (depths_from st ks) ≡ length ks
depths-from-length st [] = refl
depths-from-length st (k ∷ ks) = ap suc (depths-from-length (k ∷ one_less (waiting_nodes st)) ks)

-- and of one tree
pub depths-length : (ks : List ℕ) → length (depths_of ks) ≡ length ks
depths-length ks = depths-from-length (1 ∷ []) ks
