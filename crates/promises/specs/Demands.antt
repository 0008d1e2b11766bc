-- The three demands, sentence by sentence. They are said of the definitions that the contracts of the public functions
-- cite, so of what these functions answer and leave in the lent buffers; that no second answer fits any of those
-- contracts is proved in proofs/Answers.antt.
--
--   read_of                                       policy::read        of a file
--   tree_action_of                                tree::tree_action   of a file and a packet
--   answer_of, table_after, scratch_after         compile::compile    of a file, a table buffer and a scratch buffer
--   scan_of                                       table::scan         of a table and a packet
--   number_of, priorities_after, chain_after      priority::number    of a table, a priority buffer and a chain buffer
--   kept_of, table_kept                           hidden::drop_hidden of a table
--   capture_of, answers_after                     capture::scan_capture of a table, packets and a buffer
use Rattle.std.specs.Prelude.{ℕ, None, suc, ◌*◌, ◌-◌, ◌≤◌, ◌<◌, ◌≡◌, true, false, not, List, [], ◌++◌, Ok, Err, ◌↔◌, ◌⊎◌, length, take, drop, slice_index, slice_index_or}
use Rattle.theory.specs.Rows.{matches_at}
use Rattle.theory.specs.Nodes.{list_tree, all_atoms}
use Rattle.theory.specs.Number.{FirstPlace, distinct, Obeyed}
use Rattle.action.specs.declared.LawFailure.{LawFailure}
use Rattle.refusal.specs.Refusals.{law_broken, reason_number, failure_of, refusal_at, refusal_number, answer_number}
use Rattle.refusal.specs.declared.Reason.{Reason}
use Rattle.refusal.specs.declared.Reason.TheVariants.{LawBroken, WrongPacket, NoRoom, NoScratch, WrongTable, WrongRow, ShortBuffer, WrongCapture, ShortAnswers}
use Rattle.refusal.specs.declared.Refusal.{Refusal}
use Rattle.flow.specs.Packet.{packet_of, right_packet_words}
use Rattle.flow.specs.Match.{meets}
use Rattle.action.specs.Action.{in_range}
use Rattle.action.specs.Operator.{join}
use Rattle.action.specs.Laws.{law_search, Shows}
use Rattle.action.specs.declared.Action.{Action}
use Rattle.action.specs.declared.Action.TheVariants.{DontCare}
use Rattle.row.specs.Row.{row_length, right_row, words_of, rows_in, table_rows}
use Rattle.policy.specs.Read.{read_of, operator_records, node_records}
use Rattle.policy.specs.Sections.{inner_of, sibling_of}
use Rattle.policy.specs.Meaning.{operator_at}
use Rattle.policy.specs.File.{atoms_of, tree_of}
use Rattle.policy.specs.WellFormed.{Otherwise, WellFormed}
use Rattle.policy.specs.declared.Edition.{Edition}
use Rattle.policy.specs.Order.{Due, FileOrder}
use Rattle.policy.specs.declared.Layout.{Layout}
use Rattle.tree.specs.Action.{eval_tree, tree_action_of}
use Rattle.table.specs.Table.{row_count, past, right_length, check_of, row_at, RightTable}
use Rattle.table.specs.Scan.{scan_of, scan_action}
use Rattle.priority.specs.Numbering.{number_of, priorities_after, chain_after, Ready, Shared, priority, link}
use Rattle.words.specs.Words.{zeros}
use Rattle.hidden.specs.Hidden.{kept_rows, kept_of, table_kept}
use Rattle.capture.specs.Capture.{found_length, packet_count, packet_at, right_capture, capture_of, answers_after}
use Rattle.compile.specs.Compile.{room, compiled_rows, answer_of, table_after}
use Rattle.compile.specs.Compile.{scratch_after}
use Rattle.promises.specs.Told.{search_told, read_told, action_told, compile_told, check_told, scan_told, number_told}
use Rattle.promises.specs.Told.{kept_told, capture_told}
use Rattle.promises.specs.Told.{between, Fixed}

-- FIXED ANSWERS. Every file, packet or table handed in, however broken, gets a result or one numbered refusal. Callers
-- check nothing first. The refusals, their order and the words left in each lent buffer are fixed.

-- the numbers of the compile
abbrev pub compile_numbers : ℕ → Type 0
compile_numbers n = between 1 10 n ⊎ between 12 13 n

-- the numbers of a capture
abbrev pub capture_numbers : ℕ → Type 0
capture_numbers n = (n ≡ 11) ⊎ (between 15 16 n ⊎ between 19 20 n)

-- "Every file, packet or table handed in, however broken, gets a result or one numbered refusal": which numbers each
-- function can give.
pub record EveryInput : Type 0 where
  pub search : (o : List ℕ) (i : ℕ) → Fixed (between 10 10) (search_told i (law_search o))
  pub read : (f : List ℕ) → Fixed (between 1 10) (read_told (read_of f))
  pub action : (f p : List ℕ) → Fixed (between 1 11) (action_told (tree_action_of f p))
  pub compile : (f t s : List ℕ) → Fixed compile_numbers (compile_told (answer_of f t s))
  pub check : (ws : List ℕ) → Fixed (between 15 16) (check_told (check_of ws))
  pub scan : (ws p : List ℕ) → Fixed (λ n. (n ≡ 11) ⊎ between 15 16 n) (scan_told (scan_of ws p))
  pub number : (ws : List ℕ) (p c : ℕ) → Fixed (between 15 17) (number_told (number_of ws p c))
  pub hidden : (ws : List ℕ) → Fixed (between 15 16) (kept_told (kept_of ws))
  pub capture : (ws ps : List ℕ) (room : ℕ) → Fixed capture_numbers (capture_told (capture_of ws ps room))

-- "The refusals, their order": which comes first where several could be given.
pub record Order : Type 0 where
  -- a file: section by section, then 7, 8, 9 and last 10, each with its place, as crates/policy/specs/Order.antt says
  pub file : FileOrder
  -- none of what is due before the laws is 10
  pub file_laws : (e : Edition) (f : List ℕ) (why : Reason) (at : ℕ) → Due e f why at
      → ¬ (reason_number why ≡ law_broken)
  -- the number and the place of a refusal other than 10 are all of it
  pub plain : (r s : Refusal) → failure_of r.reason ≡ None → failure_of s.reason ≡ None
      → refusal_number r ≡ refusal_number s
      → r.place ≡ s.place → r ≡ s
  -- the tree's action: 1..10, 11
  pub action_file : (f p : List ℕ) (r : Refusal) → read_of f ≡ Err r → tree_action_of f p ≡ Err r
  pub action_packet : (f p : List ℕ) (l : Layout) → read_of f ≡ Ok l → right_packet_words p ≡ false
      → tree_action_of f p ≡ Err (refusal_at WrongPacket 0)
  -- the compile: 1..10, 13, then 12 where the rows outnumber the room
  pub compile_file : (f t s : List ℕ) (r : Refusal) → read_of f ≡ Err r → answer_of f t s ≡ Err r
  pub compile_scratch : (f t s : List ℕ) (l : Layout) → read_of f ≡ Ok l
      → length s < row_length * room (length t) → answer_of f t s ≡ Err (refusal_at NoScratch 0)
  -- a table: 15, then 16 at the first wrong row
  pub table_length : (ws : List ℕ) → right_length ws ≡ false → check_of ws ≡ Err (refusal_at WrongTable 0)
  pub table_row : (ws : List ℕ) (i : ℕ) → right_length ws ≡ true
      → FirstPlace (λ j. not (right_row (row_at ws j))) (row_count ws) i → check_of ws ≡ Err (refusal_at WrongRow i)
  -- the scan: 11, then the whole table's 15 or 16
  pub scan_packet : (ws p : List ℕ) → right_packet_words p ≡ false → scan_of ws p ≡ Err (refusal_at WrongPacket 0)
  pub scan_table : (ws p : List ℕ) (f : Refusal) → right_packet_words p ≡ true → check_of ws ≡ Err f
      → scan_of ws p ≡ Err f
  -- the numbering: 15 or 16, then 17
  pub number_table : (ws : List ℕ) (p c : ℕ) (f : Refusal) → check_of ws ≡ Err f
      → number_of ws p c ≡ Err f
  pub number_buffers : (ws : List ℕ) (p c : ℕ) → RightTable ws → (p < row_count ws) ⊎ (c < row_count ws)
      → number_of ws p c ≡ Err (refusal_at ShortBuffer 0)
  -- hidden rows out: 15 or 16
  pub hidden_table : (ws : List ℕ) (f : Refusal) → check_of ws ≡ Err f → kept_of ws ≡ Err f
  -- a capture: 19, 11 at the first wrong packet, 15 or 16, then 20
  pub capture_length : (ws ps : List ℕ) (room : ℕ) → right_capture ps ≡ false
      → capture_of ws ps room ≡ Err (refusal_at WrongCapture 0)
  pub capture_packet : (ws ps : List ℕ) (room i : ℕ) → right_capture ps ≡ true
      → FirstPlace (λ j. not (right_packet_words (packet_at ps j))) (packet_count ps) i
      → capture_of ws ps room ≡ Err (refusal_at WrongPacket i)
  pub capture_table : (ws ps : List ℕ) (room : ℕ) (f : Refusal) → right_capture ps ≡ true
      → ((i : ℕ) → i < packet_count ps → right_packet_words (packet_at ps i) ≡ true) → check_of ws ≡ Err f
      → capture_of ws ps room ≡ Err f
  pub capture_buffer : (ws ps : List ℕ) (room : ℕ) → right_capture ps ≡ true
      → ((i : ℕ) → i < packet_count ps → right_packet_words (packet_at ps i) ≡ true) → RightTable ws
      → room < packet_count ps * found_length
      → capture_of ws ps room ≡ Err (refusal_at ShortAnswers 0)

-- "and the words left in each lent buffer are fixed": what they are after each answer.
pub record WordsLeft : Type 0 where
  -- after a refusal both buffers stay, but after 12 they are all zero
  pub compile_stays : (f t s : List ℕ) (r : Refusal) → answer_of f t s ≡ Err r
      → ¬ (refusal_number r ≡ reason_number NoRoom)
      → (table_after f t s ≡ t) × (scratch_after f t s ≡ s)
  pub compile_zeros : (f t s : List ℕ) (r : Refusal) → answer_of f t s ≡ Err r
      → refusal_number r ≡ reason_number NoRoom
      → (table_after f t s ≡ zeros (length t)) × (scratch_after f t s ≡ zeros (length s))
  -- after a success the table is its rows, then zeros, and scratch is zero
  pub compile_rows : (f t s : List ℕ) (l : Layout) (n : ℕ) → read_of f ≡ Ok l
      → answer_of f t s ≡ Ok n
      → (table_after f t s ≡ words_of (compiled_rows f l) ++ zeros (length t - length (words_of (compiled_rows f l))))
      × (scratch_after f t s ≡ zeros (length s))
  -- a refused numbering leaves both buffers; after a success the words beyond the priorities and beyond the chain stay
  pub number_stays : (ws ps cs : List ℕ) (f : Refusal) → number_of ws (length ps) (length cs) ≡ Err f
      → (priorities_after ws ps cs ≡ ps) × (chain_after ws ps cs ≡ cs)
  pub number_beyond : (ws ps cs : List ℕ) (n : ℕ) → number_of ws (length ps) (length cs) ≡ Ok n
      → (drop (row_count ws) (priorities_after ws ps cs) ≡ drop (row_count ws) ps)
      × (drop n (chain_after ws ps cs) ≡ drop n cs)
  -- where no hidden row is taken out because of a refusal, the table stays; else it is the rows that stay, then zeros
  pub hidden_stays : (ws : List ℕ) (f : Refusal) → kept_of ws ≡ Err f → table_kept ws ≡ ws
  pub hidden_rows : (ws : List ℕ) (n : ℕ) → kept_of ws ≡ Ok n
      → table_kept ws ≡ words_of (kept_rows ws) ++ zeros (length ws - length (words_of (kept_rows ws)))
  -- a refused capture leaves the buffer; after a success the words beyond what was found stay
  pub capture_stays : (ws ps old : List ℕ) (f : Refusal) → capture_of ws ps (length old) ≡ Err f
      → answers_after ws ps old ≡ old
  pub capture_beyond : (ws ps old : List ℕ) (n : ℕ) → capture_of ws ps (length old) ≡ Ok n
      → drop (n * found_length) (answers_after ws ps old) ≡ drop (n * found_length) old

pub record FixedAnswers : Type 0 where
  pub every_input : EveryInput
  pub order : Order
  pub words_left : WordsLeft

-- THE TABLE FOLLOWS THE TREE. For every accepted policy and every packet, the tree's action is the one given by eval in
-- the Hierarchical Flow Tables paper, each matching atom counted, and scanning the compiled table gives the same. A
-- file otherwise good is refused for an operator exactly when some node's inner or sibling one breaks commutativity or
-- associativity, with actions that show it. Given its scratch, a table is refused for room exactly when its defined
-- rows outnumber the room.

-- two actions with allowed rates that do not commute
pub record BreaksCommutativity (o : List ℕ) : Type 0 where
  pub left : Action
  pub right : Action
  pub left_allowed : in_range left ≡ true
  pub right_allowed : in_range right ≡ true
  pub differ : ¬ (join o left right ≡ join o right left)

-- three actions with allowed rates whose two groupings differ
pub record BreaksAssociativity (o : List ℕ) : Type 0 where
  pub left : Action
  pub middle : Action
  pub right : Action
  pub left_allowed : in_range left ≡ true
  pub middle_allowed : in_range middle ≡ true
  pub right_allowed : in_range right ≡ true
  pub differ : ¬ (join o (join o left middle) right ≡ join o left (join o middle right))

-- in a file of a operators, b atoms and c nodes, some node's inner or sibling operator breaks a law
pub record SomeBroken (f : List ℕ) (a b c : ℕ) : Type 0 where
  pub node : ℕ
  pub within : node < c
  pub operator : ℕ
  pub named : (operator ≡ inner_of (slice_index_or (node_records f a b c) node []))
      ⊎ (operator ≡ sibling_of (slice_index_or (node_records f a b c) node []))
  pub breaks : BreaksCommutativity (operator_at (operator_records f a) operator)
      ⊎ BreaksAssociativity (operator_at (operator_records f a) operator)

-- the file is refused for an operator
pub record LawRefused (f : List ℕ) : Type 0 where
  pub refusal : Refusal
  pub refused : read_of f ≡ Err refusal
  pub number : refusal_number refusal ≡ law_broken

-- a refusal names by its place the first operator that some node has as inner or sibling one and that breaks a law, and
-- its actions break the law that it names
pub record Shown (f : List ℕ) (a b c : ℕ) (r : Refusal) : Type 0 where
  pub within : r.place < a
  pub some : SomeBroken f a b c
  pub named : some.operator ≡ r.place
  pub first : (other : SomeBroken f a b c) → r.place ≤ other.operator
  pub failure : LawFailure
  pub reason : r.reason ≡ LawBroken failure
  pub shows : Shows (operator_at (operator_records f a) r.place) failure

pub record TableFollowsTree : Type 0 where
  -- the accepted policies are the well-formed files, whatever order they are read in
  pub accepted : (f : List ℕ) (l : Layout) → (read_of f ≡ Ok l) ↔ WellFormed f l
  -- "For every accepted policy and every packet, the tree's action is the one given by eval in the paper,"
  pub eval : (f p : List ℕ) (l : Layout) → read_of f ≡ Ok l → right_packet_words p ≡ true
      → tree_action_of f p ≡ Ok (eval_tree (tree_of f l) (packet_of p))
  -- "each matching atom counted": the atoms of the tree are those of the file, in order and each once
  pub atoms : (f : List ℕ) (l : Layout) → read_of f ≡ Ok l → all_atoms (list_tree (tree_of f l)) ≡ atoms_of f l
  -- "and scanning the compiled table gives the same": of the rows that were answered, the scan is no refusal, and its
  -- action is the tree's
  pub scan : (f t s p : List ℕ) (n : ℕ) → answer_of f t s ≡ Ok n → right_packet_words p ≡ true
      → (answer_number (scan_of (table_rows n (table_after f t s)) p) ≡ 0)
      × (tree_action_of f p ≡ Ok (scan_action (scan_of (table_rows n (table_after f t s)) p)))
  -- there is such a table wherever scratch and room suffice
  pub compiles : (f t s : List ℕ) (l : Layout) → read_of f ≡ Ok l → row_length * room (length t) ≤ length s
      → length (compiled_rows f l) ≤ room (length t)
      → answer_of f t s ≡ Ok (length (compiled_rows f l))
  -- "A file otherwise good is refused for an operator exactly when some node's inner or sibling one breaks
  -- commutativity or associativity,"
  pub law : (f : List ℕ) (a b c : ℕ) → Otherwise f a b c → LawRefused f ↔ SomeBroken f a b c
  -- "with actions that show it"
  pub shown : (f : List ℕ) (a b c : ℕ) (r : Refusal) → Otherwise f a b c → read_of f ≡ Err r
      → refusal_number r ≡ law_broken → Shown f a b c r
  -- "Given its scratch, a table is refused for room exactly when its defined rows outnumber the room."
  pub for_room : (f t s : List ℕ) (l : Layout) → read_of f ≡ Ok l → row_length * room (length t) ≤ length s
      → (answer_of f t s ≡ Err (refusal_at NoRoom 0)) ↔ (room (length t) < length (compiled_rows f l))

-- THE SMALLEST NUMBERING. For every well-formed table, with buffers as long as it needs, where some packet matches two
-- rows, the earlier row gets the strictly higher priority. No numbering that does so uses fewer priorities, and a chain
-- of rows that forces the number is shown. A switch that obeys any matching row of highest priority therefore does what
-- the scan does.

-- a numbering q of the rows that gives the earlier of two rows that some packet in range matches the strictly higher
-- number
abbrev pub PutsHigher : List ℕ → (ℕ → ℕ) → Type 0
PutsHigher ws q = (j i : ℕ) → j < i → i < row_count ws → Shared ws j i → q i < q j

-- what the numbering leaves: row i's priority is the word priority i, the chain's k-th place the word link k
pub record RightNumbering (ws ps cs : List ℕ) : Type 0 where
  pub count : ℕ
  pub answer : number_of ws (length ps) (length cs) ≡ Ok count
  -- "where some packet matches two rows, the earlier row gets the strictly higher priority."
  pub earlier_higher : PutsHigher ws (priority ws ps cs)
  -- "No numbering that does so uses fewer priorities,": so many are used here, and at least as many by every numbering
  -- qs that does so
  pub used : length (distinct (take (row_count ws) (priorities_after ws ps cs))) ≡ count
  pub fewest : (qs : List ℕ) → length qs ≡ row_count ws → PutsHigher ws (λ i. slice_index qs i)
      → count ≤ length (distinct qs)
  -- "and a chain of rows that forces the number is shown.": as many rows as there are priorities, in scan order, of
  -- each two neighbours some packet matches both
  pub chain_length : length (take count (chain_after ws ps cs)) ≡ count
  pub chain_rows : (k : ℕ) → k < count → link ws ps cs k < row_count ws
  pub chain_order : (k : ℕ) → suc k < count → link ws ps cs k < link ws ps cs (suc k)
  pub chain_overlaps : (k : ℕ) → suc k < count → Shared ws (link ws ps cs k) (link ws ps cs (suc k))
  -- so every numbering that does so has a lower number at each step of the chain
  pub chain_forces : (q : ℕ → ℕ) → PutsHigher ws q → (k : ℕ) → suc k < count
      → q (link ws ps cs (suc k)) < q (link ws ps cs k)
  -- "A switch that obeys any matching row of highest priority therefore does what the scan does."
  pub switch : (p : List ℕ) (i : ℕ) → right_packet_words p ≡ true
      → Obeyed meets past (rows_in ws) (priority ws ps cs) (packet_of p) i
      → (slice_index_or (rows_in ws) i past).action ≡ scan_action (scan_of ws p)
  -- there is such a row where any matches, and where none does the scan gives don't care
  pub switch_obeys : (p : List ℕ) (k : ℕ) → k < row_count ws → matches_at meets past (rows_in ws) (packet_of p) k ≡ true
      → (i : ℕ) × Obeyed meets past (rows_in ws) (priority ws ps cs) (packet_of p) i
  pub switch_idle : (p : List ℕ) → right_packet_words p ≡ true
      → ((k : ℕ) → k < row_count ws → matches_at meets past (rows_in ws) (packet_of p) k ≡ false)
      → scan_action (scan_of ws p) ≡ DontCare

abbrev pub SmallestNumbering : Type 0
SmallestNumbering = (ws ps cs : List ℕ) → Ready ws ps cs → RightNumbering ws ps cs

-- THE TABLE AND THE NUMBERING TOGETHER: whatever row of the compiled table a switch obeys, by the priorities that were
-- left, its action is the tree's.
abbrev pub SwitchObeysTree : Type 0
SwitchObeysTree =
    (f t s ps cs p : List ℕ) (n i : ℕ) → answer_of f t s ≡ Ok n → n ≤ length ps → n ≤ length cs
    → right_packet_words p ≡ true
    → let ws : List ℕ = table_rows n (table_after f t s) in
    Obeyed meets past (rows_in ws) (priority ws ps cs) (packet_of p) i
    → tree_action_of f p ≡ Ok (slice_index_or (rows_in ws) i past).action
