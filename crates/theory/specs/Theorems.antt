-- Every theorem of this crate, each stated as a type. A law of the same name in proofs/ has that type: scan-join proves
-- ScanJoin.
--
--   Laws                                   what is asked of matches and operators
--   ScanJoin, JoinSize                     Lemma 1 of the paper, and how many rows a join has
--   ScanCompile, NodeChain                 Theorem 1 of the paper, and a chain of three nodes
--   CompileEvery                           what every atom has, every compiled row has; none has the empty match
--   ListPlant, PlantList                   nodes in file order and trees say the same
--   ScanPlace, ScanNone                    the scan's answer and the rows tried
--   PrioritiesRight, PrioritiesRange       an earlier overlapping row is strictly higher; priorities lie in 1..L
--   PrioritiesCount, FewestPriorities      there are L distinct priorities, and no right numbering has fewer
--   ChainHolds                             the chain is as the scope has it
--   Overlapping, Obeyed                    what is asked of overlap, and the rows that a switch may obey
--   SwitchScan, SwitchPriorities           under a right numbering, so under ours, a switch does what the scan does
--   SwitchFirst                            the first matching row may be obeyed
--   ScanHidden                             without the hidden rows the scan is the same
--   HiddenExactly, OneExactly              which rows stay, by place, and what it is to lie inside one of some rows
--   HasWhere, WhereRises                   the places that pass a test are had and no other, each after the one before
--   NoneHidden, HiddenAgain                of what stays no row lies inside an earlier one, and all stay once more
--   HiddenStep                             one row more, asking only the rows that stay
--   HiddenLess, HiddenEvery                no more rows than before, each with what every row has
--   AtomsShuffled, ChildrenShuffled        of Shuffle.antt: nodes of which one has its atoms or its children in another
--                                          order are those of a tree one step away
--   Theorems                               all of these that a contract can hold, at any types
use Rattle.std.specs.Prelude.{ℕ, suc, ◌+◌, ◌*◌, ◌≤◌, ◌<◌, ◌≡◌, Bool, true, false, not, ◌&&◌, List, [], ◌∷◌, ◌++◌, map, ◌↔◌, length, take, if◌then◌else◌, nat_lt, slice_index, slice_index_or}
use Rattle.logic.specs.Lists.{All}
use Rattle.theory.specs.declared.Row.{Row}
use Rattle.theory.specs.Rows.{scan, place, tried, matches_at, common_row, join}
use Rattle.theory.specs.Tree.{Tree, node, bare, ◌▸◌, Node, EveryNode, GoodNode, own, eval, compile}
use Rattle.theory.specs.Nodes.{Listed, plant, list_tree, list_trees, ChildrenFound}
use Rattle.theory.specs.Shuffle.{AtomsShuffled, ChildrenShuffled}
use Rattle.theory.specs.Number.{rows_overlap, FirstPlace, levels, level_count, priorities, chain, Chained, Right}
use Rattle.theory.specs.Number.{distinct, has, Obeyed}
use Rattle.theory.specs.Hidden.{inside_one, staying, inside_earlier, InsideSome, places_where, Enclosing, Nesting}

module _ {M P A O : Type 0} (meets : M → P → Bool) (dont_care : A) (joined : O → A → A → A) (common : M → M → M)
    (empty : M → Bool) where
  -- A packet meets the common match exactly when it meets both; an empty match is met by no packet; don't care is every
  -- operator's identity.
  pub record Laws : Type 0 where
    pub meets_common : (m n : M) (p : P) → meets (common m n) p ≡ (meets m p && meets n p)
    pub meets_empty : (m : M) (p : P) → empty m ≡ true → meets m p ≡ false
    pub identity_left : (o : O) (a : A) → joined o dont_care a ≡ a
    pub identity_right : (o : O) (a : A) → joined o a dont_care ≡ a

  -- Lemma 1: the scan of a join is the join of the scans.
  abbrev pub ScanJoin : Type 0
  ScanJoin = Laws → (o : O) (N N' : List (Row M A)) (p : P)
      → scan meets dont_care (join common empty (joined o) N N') p
      ≡ joined o (scan meets dont_care N p) (scan meets dont_care N' p)

  -- Theorem 1: the scan of the compiled rows is the tree's action, for every tree and packet.
  abbrev pub ScanCompile : Type 0
  ScanCompile = Laws → (t : Tree (Node O M A)) (p : P)
      → scan meets dont_care (compile common empty joined t) p ≡ eval meets dont_care joined t p

  -- A chain of nodes a, b, c is joined from the last up; no operator need be associative.
  abbrev pub NodeChain : Type 0
  NodeChain = Laws → (a b c : Node O M A) (p : P)
      → let action : Node O M A → A = λ n. own meets dont_care joined n.inner n.atoms p in
      scan meets dont_care (compile common empty joined (node a (node b (node c bare ▸ bare) ▸ bare))) p
      ≡ joined a.parent (action a) (joined b.parent (action b) (action c))

module _ {M A : Type 0} (common : M → M → M) (empty : M → Bool) (op : A → A → A) where
  -- A join of n and m rows has at most (n + 1)(m + 1) - 1, and no fewer than n + m.
  abbrev pub JoinSize : Type 0
  JoinSize = (N N' : List (Row M A)) → let rows : ℕ = length (join common empty op N N') in
      (suc rows ≤ suc (length N) * suc (length N')) × (length N + length N' ≤ rows)

module _ {M A O : Type 0} (joined : O → A → A → A) (common : M → M → M) (empty : M → Bool) where
  -- A property that every atom has, and that common rows keep under operators such as the nodes', every compiled row
  -- has; and no compiled row has the empty match.
  abbrev pub CompileEvery : Type 1
  CompileEvery = (K : O → Type 0) (T : Row M A → Type 0)
      → ((o : O) (r s : Row M A) → K o → T r → T s → T (common_row common (joined o) r s))
      → (t : Tree (Node O M A)) → EveryNode (GoodNode K T) t
      → All (λ r. T r × (empty r.matching ≡ false)) (compile common empty joined t)

module _ (X : Type 0) where
  -- Where every node finds its children, the list of the planted trees is the nodes.
  abbrev pub ListPlant : Type 0
  ListPlant = (ns : List (Listed X)) → ChildrenFound ns → list_trees (plant ns) ≡ ns

  -- The list of a tree, planted, is that tree alone.
  abbrev pub PlantList : Type 0
  PlantList = (t : Tree X) → plant (list_tree t) ≡ t ▸ bare

module _ {M P A : Type 0} (meets : M → P → Bool) (dont_care : A) where
  -- Where row i is the first that matches, the scan answers its action and has tried its place plus 1 rows.
  abbrev pub ScanPlace : Type 0
  ScanPlace = (d : Row M A) (N : List (Row M A)) (p : P) (i : ℕ) → FirstPlace (matches_at meets d N p) (length N) i
      → (scan meets dont_care N p ≡ (slice_index_or N i d).action) × (place meets N p ≡ i) × (tried meets N p ≡ suc i)

  -- Where no row matches, the scan answers don't care and has tried all rows.
  abbrev pub ScanNone : Type 0
  ScanNone = (d : Row M A) (N : List (Row M A)) (p : P) → ((i : ℕ) → i < length N → matches_at meets d N p i ≡ false)
      → (scan meets dont_care N p ≡ dont_care) × (place meets N p ≡ length N) × (tried meets N p ≡ length N)

module _ (over : ℕ → ℕ → Bool) (n : ℕ) where
  -- Of two rows that overlap the earlier has the strictly higher priority.
  abbrev pub PrioritiesRight : Type 0
  PrioritiesRight = Right over n (λ i. slice_index (priorities (levels over n)) i)

  -- Each row's priority lies in 1..L.
  abbrev pub PrioritiesRange : Type 0
  PrioritiesRange = (i : ℕ) → i < n
      → let q : ℕ = slice_index (priorities (levels over n)) i in (1 ≤ q) × (q ≤ level_count (levels over n))

  -- There are exactly L distinct priorities.
  abbrev pub PrioritiesCount : Type 0
  PrioritiesCount = length (distinct (priorities (levels over n))) ≡ level_count (levels over n)

  -- Every right numbering of the same rows has at least L distinct numbers.
  abbrev pub FewestPriorities : Type 0
  FewestPriorities = (qs : List ℕ) → length qs ≡ n → Right over n (λ i. slice_index qs i)
      → level_count (levels over n) ≤ length (distinct qs)

  -- The chain is right.
  abbrev pub ChainHolds : Type 0
  ChainHolds = Chained over (levels over n) (chain over (levels over n))

-- Where a packet meets two matches, they overlap.
abbrev pub Overlapping : {M P : Type 0} → (M → P → Bool) → (M → M → Bool) → Type 0
Overlapping {M} {P} meets overlap = (m n : M) (p : P) → meets m p ≡ true → meets n p ≡ true → overlap m n ≡ true

module _ {M P A : Type 0} (meets : M → P → Bool) (dont_care : A) (overlap : M → M → Bool) where
  -- Under a right numbering, whatever row a switch obeys has the scan's action.
  abbrev pub SwitchScan : Type 0
  SwitchScan = Overlapping meets overlap → (d : Row M A) (N : List (Row M A)) (q : ℕ → ℕ)
      → Right (rows_overlap overlap d N) (length N) q
      → (p : P) (i : ℕ) → Obeyed meets d N q p i → (slice_index_or N i d).action ≡ scan meets dont_care N p

  -- So it is under our priorities.
  abbrev pub SwitchPriorities : Type 0
  SwitchPriorities = Overlapping meets overlap → (d : Row M A) (N : List (Row M A)) (p : P) (i : ℕ)
      → Obeyed meets d N (λ k. slice_index (priorities (levels (rows_overlap overlap d N) (length N))) k) p i
      → (slice_index_or N i d).action ≡ scan meets dont_care N p

  -- Where some row matches, the switch has a row to obey: the first that matches.
  abbrev pub SwitchFirst : Type 0
  SwitchFirst = Overlapping meets overlap → (d : Row M A) (N : List (Row M A)) (q : ℕ → ℕ)
      → Right (rows_overlap overlap d N) (length N) q
      → (p : P) (i : ℕ) → FirstPlace (matches_at meets d N p) (length N) i → Obeyed meets d N q p i

module _ {M P A : Type 0} (meets : M → P → Bool) (dont_care : A) (inside : M → M → Bool) where
  -- Without the hidden rows the scan is the same, for every packet.
  abbrev pub ScanHidden : Type 0
  ScanHidden = Enclosing meets inside → (N : List (Row M A)) (p : P)
      → scan meets dont_care (staying inside N) p ≡ scan meets dont_care N p

module _ {M : Type 0} (A : Type 0) (inside : M → M → Bool) where
  -- What stays are the rows at the places that lie inside no earlier row of the table, in order.
  abbrev pub HiddenExactly : Type 0
  HiddenExactly = (d : Row M A) (N : List (Row M A))
      → staying inside N
      ≡ map (λ i. slice_index_or N i d) (places_where (λ i. not (inside_earlier inside d N i)) (length N))

  -- A match lies inside one of some rows exactly when there is one that it lies inside.
  abbrev pub OneExactly : Type 0
  OneExactly = (d : Row M A) (m : M) (N : List (Row M A)) → (inside_one inside m N ≡ true) ↔ InsideSome inside d m N

  -- Of what stays no row lies inside an earlier one.
  abbrev pub NoneHidden : Type 0
  NoneHidden = (d : Row M A) (N : List (Row M A)) → let K : List (Row M A) = staying inside N in
      (j i : ℕ) → j < i → i < length K → inside (slice_index_or K i d).matching (slice_index_or K j d).matching ≡ false

  -- A second pass changes nothing.
  abbrev pub HiddenAgain : Type 0
  HiddenAgain = (N : List (Row M A)) → staying inside (staying inside N) ≡ staying inside N

  -- One row more: it is enough to ask the rows that stay, since a row inside one that goes lies inside one that stays.
  abbrev pub HiddenStep : Type 0
  HiddenStep = Nesting inside → (d : Row M A) (N : List (Row M A)) (i : ℕ) → i < length N
      → let K : List (Row M A) = staying inside (take i N) in
      staying inside (take (suc i) N)
      ≡ K ++ (if inside_one inside (slice_index_or N i d).matching K then [] else slice_index_or N i d ∷ [])

  -- No more rows stay than there were.
  abbrev pub HiddenLess : Type 0
  HiddenLess = (N : List (Row M A)) → length (staying inside N) ≤ length N

  -- What every row has, every row that stays has.
  abbrev pub HiddenEvery : Type 1
  HiddenEvery = (T : Row M A → Type 0) (N : List (Row M A)) → All T N → All T (staying inside N)

module _ (test : ℕ → Bool) where
  -- The places that pass the test are had, and no other.
  abbrev pub HasWhere : Type 0
  HasWhere = (n i : ℕ) → has i (places_where test n) ≡ (nat_lt i n && test i)

  -- Each lies after the one before it.
  abbrev pub WhereRises : Type 0
  WhereRises = (n k : ℕ) → suc k < length (places_where test n)
      → slice_index (places_where test n) k < slice_index (places_where test n) (suc k)

-- All of these over any matches, packets, actions and operators, but for CompileEvery and HiddenEvery: they speak of
-- every property, which a contract cannot.
pub record Theorems (M P A O : Type 0) : Type 0 where
  pub scan_join : (meets : M → P → Bool) (dont_care : A) (joined : O → A → A → A) (common : M → M → M)
      (empty : M → Bool)
      → ScanJoin meets dont_care joined common empty
  pub scan_compile : (meets : M → P → Bool) (dont_care : A) (joined : O → A → A → A) (common : M → M → M)
      (empty : M → Bool)
      → ScanCompile meets dont_care joined common empty
  pub node_chain : (meets : M → P → Bool) (dont_care : A) (joined : O → A → A → A) (common : M → M → M)
      (empty : M → Bool)
      → NodeChain meets dont_care joined common empty
  pub join_size : (common : M → M → M) (empty : M → Bool) (op : A → A → A) → JoinSize common empty op
  pub list_plant : ListPlant O
  pub plant_list : PlantList O
  pub atoms_shuffled : AtomsShuffled O M A
  pub children_shuffled : ChildrenShuffled O M A
  pub scan_place : (meets : M → P → Bool) (dont_care : A) → ScanPlace meets dont_care
  pub scan_none : (meets : M → P → Bool) (dont_care : A) → ScanNone meets dont_care
  pub priorities_right : (over : ℕ → ℕ → Bool) (n : ℕ) → PrioritiesRight over n
  pub priorities_range : (over : ℕ → ℕ → Bool) (n : ℕ) → PrioritiesRange over n
  pub priorities_count : (over : ℕ → ℕ → Bool) (n : ℕ) → PrioritiesCount over n
  pub fewest_priorities : (over : ℕ → ℕ → Bool) (n : ℕ) → FewestPriorities over n
  pub chain_holds : (over : ℕ → ℕ → Bool) (n : ℕ) → ChainHolds over n
  pub switch_scan : (meets : M → P → Bool) (dont_care : A) (overlap : M → M → Bool) → SwitchScan meets dont_care overlap
  pub switch_priorities : (meets : M → P → Bool) (dont_care : A) (overlap : M → M → Bool)
      → SwitchPriorities meets dont_care overlap
  pub switch_first : (meets : M → P → Bool) (dont_care : A) (overlap : M → M → Bool)
      → SwitchFirst meets dont_care overlap
  pub scan_hidden : (meets : M → P → Bool) (dont_care : A) (inside : M → M → Bool) → ScanHidden meets dont_care inside
  pub hidden_exactly : (inside : M → M → Bool) → HiddenExactly A inside
  pub one_exactly : (inside : M → M → Bool) → OneExactly A inside
  pub none_hidden : (inside : M → M → Bool) → NoneHidden A inside
  pub hidden_again : (inside : M → M → Bool) → HiddenAgain A inside
  pub hidden_step : (inside : M → M → Bool) → HiddenStep A inside
  pub hidden_less : (inside : M → M → Bool) → HiddenLess A inside
  pub has_where : (test : ℕ → Bool) → HasWhere test
  pub where_rises : (test : ℕ → Bool) → WhereRises test
