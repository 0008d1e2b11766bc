-- What the statements of this crate rest on, as the crates below state it: held here, so that none of it can go
-- unseen; and the numbers and words of the format.
--
--   RestsOn   each of them; those of theory stand on the contract of `theory::theorems`, and four that nothing else
--             cites are written out here at the matches, actions and operators of a file
--   Premises  what the premises of theorems ask
--   Numbers   the numbers, limits and words of the format
use Rattle.std.specs.Prelude.{ℕ, suc, ◌+◌, ◌*◌, ◌/◌, ◌≤◌, ◌<◌, ◌≡◌, Bool, true, false, List, [], ◌∷◌, min, length, map, Result, Ok, Err, None, codes, decimal, slice_index, slice_index_or}
use Rattle.words.specs.Bytes.{word_bytes, words_in, bytes_of}
use Rattle.words.specs.Theorems.{WordsRead, BytesRead}
use Rattle.field.specs.Theorems.{MeetExactly}
use Rattle.flow.specs.Packet.{port_limit, protocol_limit, packet_length, packet_of, right_packet}
use Rattle.flow.specs.declared.Packet.{Packet}
use Rattle.action.specs.Action.{largest_rate, kind_of, action_of}
use Rattle.action.specs.Laws.{shown, actions_of}
use Rattle.action.specs.declared.Action.{Action}
use Rattle.action.specs.declared.LawFailure.{LawFailure}
use Rattle.action.specs.declared.LawFailure.TheVariants.{Commutativity, Associativity}
use Rattle.refusal.specs.Refusals.{reason_number, failure_of, refusal_at, answer_number, answer_place, answer_failure}
use Rattle.refusal.specs.declared.Reason.{Reason}
use Rattle.refusal.specs.declared.Refusal.{Refusal}
use Rattle.refusal.specs.declared.Reason.TheVariants.{ShortFile, WrongCount, WrongCell, WrongMatch, WrongAction, WrongNode}
use Rattle.refusal.specs.declared.Reason.TheVariants.{ExtraWords, NoTree, WrongSum, LawBroken, WrongPacket, NoRoom, NoScratch}
use Rattle.refusal.specs.declared.Reason.TheVariants.{WrongTable, WrongRow, ShortBuffer, WrongInput, WrongCapture, ShortAnswers, WrongBytes}
use Rattle.row.specs.Row.{row_length, most_rows, row_of, rows_in}
use Rattle.policy.specs.Numbers.{node_length, most_operators, most_atoms, most_nodes, most_children, deepest, longest_file}
use Rattle.policy.specs.Sections.{inner_of, parent_of, sibling_of, own_of, children_of}
use Rattle.table.specs.Table.{past, right_length, check_of}
use Rattle.priority.specs.Numbering.{Ready, Shared}
use Rattle.theory.specs.declared.Row.{Row}
use Rattle.theory.specs.Rows.{scan, matches_at}
use Rattle.theory.specs.Rows as rows
use Rattle.theory.specs.Tree.{Node, own, compile, bare, ◌▸◌}
use Rattle.theory.specs.Tree as tree
use Rattle.theory.specs.Number.{rows_overlap, levels, priorities, FirstPlace, Obeyed}
use Rattle.flow.specs.declared.Match.{Match}
use Rattle.capture.specs.Capture.{most_packets, found_length, found_words, right_capture}
use Rattle.compile.specs.Compile.{room}
use Rattle.show.specs.Sheet.{listing_room}
use Rattle.show.specs.Text.{head, refusal, action_text, address}
use Rattle.text.specs.Listing.{right_input, blank}
use Rattle.flow.specs.Match.{meets, common, overlap, is_empty, match_length, match_of, has_ports}
use Rattle.flow.specs.Match.{in_port_flag, protocol_flag, source_port_flag, destination_port_flag, empty_flag}
use Rattle.flow.specs.Theorems.{InsideTrans, MetExactly, MatchWordsRead, MatchWrittenRead, PacketWordsRead, PacketReadWords, PacketWrittenRead}
use Rattle.action.specs.Operator.{cell_count, coded, join, sibling, parent}
use Rattle.action.specs.declared.Action.TheVariants.{DontCare, Allow, Deny, Gmb}
use Rattle.policy.specs.Theorems.{PartsAccepted, AcceptedParts, PartsWhole}
use Rattle.show.specs.Theorems.{DecimalReads}
use Rattle.text.specs.Theorems.{KnownByFirst, KnownByRoom, ExamplesListed}

pub record RestsOn : Type 0 where
  -- the scan of a join is the join of the scans
  pub scan_join : (o : List ℕ) (N N' : List (Row Match Action)) (p : Packet)
      → scan meets DontCare (rows.join common is_empty (join o) N N') p
      ≡ join o (scan meets DontCare N p) (scan meets DontCare N' p)
  -- a join of n and m rows has at most (n + 1)(m + 1) - 1, and no fewer than n + m
  pub join_size : (o : List ℕ) (N N' : List (Row Match Action))
      → (suc (length (rows.join common is_empty (join o) N N')) ≤ suc (length N) * suc (length N'))
      × (length N + length N' ≤ length (rows.join common is_empty (join o) N N'))
  -- a chain of three nodes is joined from the last up
  pub node_chain : (a b c : Node (List ℕ) Match Action) (p : Packet)
      → let action : Node (List ℕ) Match Action → Action = λ n. own meets DontCare join n.inner n.atoms p in
      scan meets DontCare (compile common is_empty join (tree.node a (tree.node b (tree.node c bare ▸ bare) ▸ bare))) p
      ≡ join a.parent (action a) (join b.parent (action b) (action c))
  -- under our priorities, whatever row a switch obeys has the scan's action
  pub switch_priorities : (d : Row Match Action) (N : List (Row Match Action)) (p : Packet) (i : ℕ)
      → Obeyed meets d N (λ k. slice_index (priorities (levels (rows_overlap overlap d N) (length N))) k) p i
      → (slice_index_or N i d).action ≡ scan meets DontCare N p
  pub words_read : WordsRead
  pub bytes_read : BytesRead
  pub meet_exactly : MeetExactly
  pub met_exactly : MetExactly
  pub inside_trans : InsideTrans
  pub match_words_read : MatchWordsRead
  pub match_written_read : MatchWrittenRead
  pub packet_words_read : PacketWordsRead
  pub packet_read_words : PacketReadWords
  pub packet_written_read : PacketWrittenRead
  pub parts_accepted : PartsAccepted
  pub accepted_parts : AcceptedParts
  pub parts_whole : PartsWhole
  pub decimal_reads : DecimalReads
  pub known_by_first : KnownByFirst
  pub known_by_room : KnownByRoom
  pub examples_listed : ExamplesListed

-- WHAT PREMISES ASK, and no more: where a theorem begins with one of these, so little is enough for it
pub record Premises : Type 0 where
  -- the check passes a table, and neither buffer is shorter than its row count
  pub ready : (ws ps cs : List ℕ) (n : ℕ) → check_of ws ≡ Ok n → n ≤ length ps → n ≤ length cs → Ready ws ps cs
  -- some packet in range meets both rows
  pub shared : (ws : List ℕ) (j i : ℕ) (p : Packet) → right_packet p ≡ true
      → meets (slice_index_or (rows_in ws) j past).matching p ≡ true
      → meets (slice_index_or (rows_in ws) i past).matching p ≡ true
      → Shared ws j i
  -- any row that the packet meets and that no such row has a higher number than
  pub obeyed : (ws : List ℕ) (q : ℕ → ℕ) (p : Packet) (i : ℕ) → i < length (rows_in ws)
      → matches_at meets past (rows_in ws) p i ≡ true
      → ((j : ℕ) → j < length (rows_in ws) → matches_at meets past (rows_in ws) p j ≡ true → q j ≤ q i)
      → Obeyed meets past (rows_in ws) q p i
  -- the first place that passes a test
  pub first : (test : ℕ → Bool) (n i : ℕ) → i < n → test i ≡ true → ((j : ℕ) → j < i → test j ≡ false)
      → FirstPlace test n i

-- THE NUMBERS OF THE FORMAT, and its words: as docs/FORMAT.md writes them, side by side
pub record Numbers : Type 0 where
  -- the refusals
  pub file :
      (f : LawFailure)
      → map reason_number
      (ShortFile ∷ WrongCount ∷ WrongCell ∷ WrongMatch ∷ WrongAction ∷ WrongNode ∷ ExtraWords ∷ NoTree ∷ WrongSum
      ∷ LawBroken f ∷ [])
      ≡ 1 ∷ 2 ∷ 3 ∷ 4 ∷ 5 ∷ 6 ∷ 7 ∷ 8 ∷ 9 ∷ 10 ∷ []
  pub others :
      map reason_number
      (WrongPacket ∷ NoRoom ∷ NoScratch ∷ WrongTable ∷ WrongRow ∷ ShortBuffer ∷ WrongInput ∷ WrongCapture
      ∷ ShortAnswers ∷ WrongBytes ∷ [])
      ≡ 11 ∷ 12 ∷ 13 ∷ 15 ∷ 16 ∷ 17 ∷ 18 ∷ 19 ∷ 20 ∷ 21 ∷ []
  -- limits; those of rows in a table, of packets in a capture and of bytes hold up to them and not beyond
  pub limits :
      (most_operators ∷ most_atoms ∷ most_nodes ∷ most_children ∷ deepest ∷ longest_file ∷ [])
      ≡ 32 ∷ 1024 ∷ 256 ∷ 255 ∷ 16 ∷ 12835 ∷ []
  pub rows : (most_rows ∷ listing_room ∷ []) ≡ 4096 ∷ 1024 ∷ []
  pub packets : most_packets ≡ 4096
  -- the rows that so many words have room for
  pub rooms : (words : ℕ) → room words ≡ min (words / 11) 4096
  pub values : (port_limit ∷ protocol_limit ∷ largest_rate ∷ []) ≡ 65536 ∷ 256 ∷ 100000000 ∷ []
  pub longest_table : (ws : List ℕ) → length ws ≡ 45056 → right_length ws ≡ true
  pub longer_table : (ws : List ℕ) → length ws ≡ 45067 → right_length ws ≡ false
  pub longest_capture : (ps : List ℕ) → length ps ≡ 24576 → right_capture ps ≡ true
  pub longer_capture : (ps : List ℕ) → length ps ≡ 24582 → right_capture ps ≡ false
  pub longest_bytes : (b : List ℕ) → length b ≡ 51340 → right_input b ≡ true
  pub longer_bytes : (b : List ℕ) → length b ≡ 51344 → right_input b ≡ false
  pub blank_words : length blank ≡ 11264
  -- the words of a packet, a match, an atom or a row, an operator and a node, the bytes of a word, and the words of
  -- what is found for a packet
  pub lengths :
      (packet_length ∷ match_length ∷ row_length ∷ cell_count ∷ node_length ∷ word_bytes ∷ found_length ∷ [])
      ≡ 6 ∷ 9 ∷ 11 ∷ 9 ∷ 5 ∷ 4 ∷ 3 ∷ []
  -- and which each of them is
  pub packet : (a b c d e f : ℕ)
      → packet_of (a ∷ b ∷ c ∷ d ∷ e ∷ f ∷ [])
      ≡ record { in_port = a; source = b; destination = c; protocol = d; source_port = e; destination_port = f }
  pub matching : (a b c d e f g h i : ℕ)
      → match_of (a ∷ b ∷ c ∷ d ∷ e ∷ f ∷ g ∷ h ∷ i ∷ [])
      ≡ record {
        in_port = a;
        source = record { address = b; length = g };
        destination = record { address = c; length = h };
        protocol = d;
        source_port = e;
        destination_port = f;
        flags = i;
      }
  pub row : (a b c d e f g h i k n : ℕ)
      → row_of (a ∷ b ∷ c ∷ d ∷ e ∷ f ∷ g ∷ h ∷ i ∷ k ∷ n ∷ [])
      ≡ record { matching = match_of (a ∷ b ∷ c ∷ d ∷ e ∷ f ∷ g ∷ h ∷ i ∷ []); action = action_of k n }
  pub node : (a b c d e : ℕ)
      → let node : List ℕ = a ∷ b ∷ c ∷ d ∷ e ∷ [] in
      (inner_of node ∷ parent_of node ∷ sibling_of node ∷ own_of node ∷ children_of node ∷ []) ≡ node
  pub found : (n t : ℕ)
      → map found_words
      (record { action = DontCare; tried = t } ∷ record { action = Allow; tried = t }
      ∷ record { action = Deny; tried = t }
      ∷ record { action = Gmb n; tried = t } ∷ [])
      ≡ (0 ∷ 0 ∷ t ∷ []) ∷ (1 ∷ 0 ∷ t ∷ []) ∷ (2 ∷ 0 ∷ t ∷ []) ∷ (3 ∷ n ∷ t ∷ []) ∷ []
  -- flags: in-port, protocol, source port, destination port, the empty match
  pub flags : (in_port_flag ∷ protocol_flag ∷ source_port_flag ∷ destination_port_flag ∷ empty_flag ∷ [])
      ≡ 1 ∷ 2 ∷ 4 ∷ 8 ∷ 16 ∷ []
  pub ports : map has_ports (5 ∷ 6 ∷ 7 ∷ 16 ∷ 17 ∷ 18 ∷ []) ≡ false ∷ true ∷ false ∷ false ∷ true ∷ false ∷ []
  -- kinds, in both directions
  pub kinds : (n : ℕ) → map kind_of (DontCare ∷ Allow ∷ Deny ∷ Gmb n ∷ []) ≡ 0 ∷ 1 ∷ 2 ∷ 3 ∷ []
  pub actions : (n : ℕ)
      → (action_of 0 n ∷ action_of 1 n ∷ action_of 2 n ∷ action_of 3 n ∷ []) ≡ DontCare ∷ Allow ∷ Deny ∷ Gmb n ∷ []
  -- a cell for each two kinds, the left action's slowest, and what each code gives; don't care has no cell
  pub cells : (a b c d e f g h i m n : ℕ)
      → let o : List ℕ = a ∷ b ∷ c ∷ d ∷ e ∷ f ∷ g ∷ h ∷ i ∷ [] in
      (join o Allow Allow ∷ join o Allow Deny ∷ join o Allow (Gmb n)
      ∷ join o Deny Allow ∷ join o Deny Deny ∷ join o Deny (Gmb n)
      ∷ join o (Gmb m) Allow ∷ join o (Gmb m) Deny ∷ join o (Gmb m) (Gmb n) ∷ [])
      ≡ coded a Allow Allow ∷ coded b Allow Deny ∷ coded c Allow (Gmb n)
      ∷ coded d Deny Allow ∷ coded e Deny Deny ∷ coded f Deny (Gmb n)
      ∷ coded g (Gmb m) Allow ∷ coded h (Gmb m) Deny ∷ coded i (Gmb m) (Gmb n) ∷ []
  pub cell_codes :
      let l : Action = Gmb 10 in
      let r : Action = Gmb 30 in
      (coded 1 l r ∷ coded 2 l r ∷ coded 3 l r ∷ coded 4 l r ∷ coded 5 l r ∷ coded 6 l r ∷ coded 5 r l ∷ coded 6 r l
      ∷ coded 7 l r ∷ coded 7 r l ∷ [])
      ≡ Allow ∷ Deny ∷ l ∷ r ∷ r ∷ l ∷ r ∷ l ∷ Gmb 40 ∷ Gmb 40 ∷ []
  pub identity : (o : List ℕ) (n : ℕ)
      → (map (join o DontCare) (DontCare ∷ Allow ∷ Deny ∷ Gmb n ∷ []) ≡ DontCare ∷ Allow ∷ Deny ∷ Gmb n ∷ [])
      × (map (λ a. join o a DontCare) (Allow ∷ Deny ∷ Gmb n ∷ []) ≡ Allow ∷ Deny ∷ Gmb n ∷ [])
  -- the two operators supplied by name, the actions that show a broken law, and the showing list
  pub supplied :
      (sibling ≡ 1 ∷ 2 ∷ 4 ∷ 2 ∷ 2 ∷ 2 ∷ 3 ∷ 2 ∷ 5 ∷ []) × (parent ≡ 1 ∷ 2 ∷ 4 ∷ 1 ∷ 2 ∷ 4 ∷ 3 ∷ 2 ∷ 5 ∷ [])
  pub failures : (a b c : Action)
      → (actions_of (Commutativity a b) ≡ a ∷ b ∷ DontCare ∷ []) × (actions_of (Associativity a b c) ≡ a ∷ b ∷ c ∷ [])
  pub showing : shown ≡ Allow ∷ Deny ∷ Gmb 1 ∷ Gmb 2 ∷ Gmb 4 ∷ []
  -- what a refusal tells, and a success
  pub told : (why : Reason) (at : ℕ)
      → let x : Result ℕ Refusal = Err (refusal_at why at) in
      (answer_number x ≡ reason_number why) × (answer_place x ≡ at) × (answer_failure x ≡ failure_of why)
  pub success : (n : ℕ)
      → let x : Result ℕ Refusal = Ok n in
      (answer_number x ≡ 0) × (answer_place x ≡ 0) × (answer_failure x ≡ None)
  -- little-endian bytes, and bytes in ASCII
  pub words : words_in (1 ∷ 2 ∷ 3 ∷ 4 ∷ 255 ∷ 255 ∷ 255 ∷ 255 ∷ []) ≡ 67305985 ∷ 4294967295 ∷ []
  pub bytes : bytes_of 67305985 ≡ 1 ∷ 2 ∷ 3 ∷ 4 ∷ []
  pub marks : codes "az09 */.\n" ≡ 97 ∷ 122 ∷ 48 ∷ 57 ∷ 32 ∷ 42 ∷ 47 ∷ 46 ∷ 10 ∷ []
  -- the words of a listing
  pub decimals : map decimal (0 ∷ 9 ∷ 10 ∷ 1234567890 ∷ 4294967295 ∷ [])
      ≡ map codes ("0" ∷ "9" ∷ "10" ∷ "1234567890" ∷ "4294967295" ∷ [])
  pub first_line : head 12 3 ≡ codes "rows 12 priorities 3\n"
  pub refused : refusal 12 34 ≡ codes "refused 12 34\n"
  pub actions_text : map action_text (DontCare ∷ Allow ∷ Deny ∷ Gmb 40000 ∷ [])
      ≡ map codes ("none\n" ∷ "allow\n" ∷ "deny\n" ∷ "gmb 40000\n" ∷ [])
  pub prefix_text : address 168231689 32 ≡ codes "10.7.3.9/32 "
