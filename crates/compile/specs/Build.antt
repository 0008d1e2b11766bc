-- What the walk that builds the table of a tree asks and leaves: the tables of the trees at a place in words, and the
-- answers of its steps.
--
--   compile_tree, compile_trees                      the table of a tree, and of some children
--   own_at, tree_words, children_words               the tables of a node's own atoms, of a subtree and of some
--                                                    children, in words
--   BuildsBy, Builds                                 a table was built at a place, and the next place is as told; or
--                                                    there was no room
--   NodeBuilt, TreeBuilt, ChildrenBuilt, JoinBuilt   what each step leaves
--   AtNode, AtPlace, OfNode, OfBuilt                 what each step asks
use Rattle.std.specs.Prelude.{ℕ, ◌≤◌, ◌<◌, ◌≡◌, List, length, Option, Some, None}
use Rattle.theory.specs.declared.Row.{Row}
use Rattle.theory.specs.Tree.{Forest, compile, compiles}
use Rattle.flow.specs.Match.{is_empty, common}
use Rattle.flow.specs.declared.Match.{Match}
use Rattle.action.specs.Operator as operator
use Rattle.action.specs.declared.Action.{Action}
use Rattle.policy.specs.File.{PolicyNode, PolicyTree}
use Rattle.nodes.specs.Nodes.{node_at, cells_at, atom_words_at}
use Rattle.nodes.specs.Walk.{next_spot, Reached, tree_at, children_at, AfterTree, AfterChildren}
use Rattle.policy.specs.declared.Node.{Node}
use Rattle.nodes.specs.declared.Spot.{Spot}
use Rattle.compile.specs.Lays.{Lays}
use Rattle.compile.specs.Places.{part}
use Rattle.compile.specs.Tables.{join_words, own_words}
use Rattle.compile.specs.declared.build.BuiltTable.{BuiltTable}
use Rattle.row.specs.Row.{words_of}

-- the table of a tree
abbrev pub compile_tree : PolicyTree → List (Row Match Action)
compile_tree t = compile common is_empty operator.join t

-- the table of some children under a sibling operator
abbrev pub compile_trees : Forest PolicyNode → List ℕ → List (Row Match Action)
compile_trees ts o = compiles common is_empty operator.join ts o

-- the table of a node's own atoms, in words
abbrev pub own_at : List ℕ → Spot → List ℕ
own_at f s =
    own_words (cells_at f (node_at f s.nodes_left).inner) (atom_words_at f s.next_atom (node_at f s.nodes_left).own)

-- the table of the subtree at a place, in words
unfoldable pub tree_words : List ℕ → Spot → List ℕ
tree_words f s = words_of (compile_tree (tree_at f s))

-- the table of k children from a place on under a sibling operator, in words
unfoldable pub children_words : List ℕ → Spot → ℕ → ℕ → List ℕ
children_words f s k o = words_of (compile_trees (children_at f s k) (cells_at f o))

-- by the answer: F was laid at a place, and the next place is as told; or there was no room
abbrev pub BuildsBy : ℕ → List ℕ → List ℕ → List ℕ → (Spot → Type 0) → Option BuiltTable → Type 0
BuildsBy a F old new told (Some p) = Lays a F old new (Some p.end) × told p.next
BuildsBy a F old new told None = Lays a F old new None

-- the same, with its parts named
pub record Builds (a : ℕ) (F old new : List ℕ) (told : Spot → Type 0) (r : Option BuiltTable) : Type 0 where
  pub is : BuildsBy a F old new told r

-- a node's own rows
abbrev pub NodeBuilt : List ℕ → Spot → ℕ → List ℕ → List ℕ → Option BuiltTable → Type 0
NodeBuilt f s a old new r = Builds a (own_at f s) old new (λ next. next ≡ next_spot f s) r

-- a subtree's rows
abbrev pub TreeBuilt : List ℕ → Spot → ℕ → List ℕ → List ℕ → Option BuiltTable → Type 0
TreeBuilt f s a old new r = Builds a (tree_words f s) old new (AfterTree f s) r

-- the rows of some children
abbrev pub ChildrenBuilt : List ℕ → Spot → ℕ → ℕ → ℕ → List ℕ → List ℕ → Option BuiltTable → Type 0
ChildrenBuilt f s sibling k a old new r = Builds a (children_words f s k sibling) old new (AfterChildren f s k) r

-- a part that was built from b on, joined with what stands from a up to b
abbrev pub JoinBuilt : List ℕ → ℕ → ℕ → BuiltTable → List ℕ → List ℕ → Option BuiltTable → Type 0
JoinBuilt o a b p old new r =
    Builds a (join_words o (part a b old) (part b p.end old)) old new (λ next. next ≡ p.next) r

-- a place that the walk reached, a start in a buffer, and the other buffer as long
abbrev pub AtPlace : List ℕ → Spot → ℕ → List ℕ → List ℕ → Type 0
AtPlace f s start table scratch = Reached f s × (start ≤ length table) × (length scratch ≡ length table)

-- the same, where a node stands
abbrev pub AtNode : List ℕ → Spot → ℕ → List ℕ → List ℕ → Type 0
AtNode f s start table scratch =
    Reached f s × (0 < s.nodes_left) × (start ≤ length table) × (length scratch ≡ length table)

-- the same, with the node that stands there
abbrev pub OfNode : List ℕ → Spot → Node → ℕ → List ℕ → List ℕ → Type 0
OfNode f s n start table scratch =
    Reached f s × (0 < s.nodes_left) × (n ≡ node_at f s.nodes_left)
    × (start ≤ length table) × (length scratch ≡ length table)

-- a part that was built from a middle on, behind a start, and the other buffer as long
abbrev pub OfBuilt : ℕ → ℕ → BuiltTable → List ℕ → List ℕ → Type 0
OfBuilt start middle p table scratch =
    (start ≤ middle) × (middle ≤ p.end) × (p.end ≤ length table) × (length scratch ≡ length table)
