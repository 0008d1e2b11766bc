-- For each public function, and for those of the traits by which values are read, written and converted: its contract, as the checker reads it, asks
-- nothing, and no second answer fits it. Where buffers are lent, their words are part of what is seen; of a sink what the bytes that it was given settle.
use Rattle.std.proofs.Common.{ℕ, ◌%◌, ◌^◌, ◌≡◌, refl, sym, ap, ◌∙◌, List, [], ◌∷◌}
use mathlib.Core.List.{Mem, not-mem-nil}
use denote.RattleType.{RattleType}
use denote.Param.Laws.{Laws, IsCopy}
use denote.Builtin.{u8, u32}
use denote.Array.{Array}
use mir.Syntax.{Dict}
use Rattle.logic.specs.Answers.{OneAnswer, answer_with, answer_and}
use Rattle.logic.proofs.Answers.{fixed, both, all}
use Rattle.field.proofs.Prefix.contains.Reads as in_prefix
use Rattle.field.proofs.Prefix.is_right.Reads as right_prefix
use Rattle.field.proofs.Prefix.meets.Reads as prefixes_meet
use Rattle.field.proofs.Prefix.covers.Reads as prefix_covers
use Rattle.field.proofs.Prefix.longer.Reads as longer
use Rattle.field.proofs.meets_value.Reads as meets_value
use Rattle.field.proofs.values_meet.Reads as values_meet
use Rattle.field.proofs.common_value.Reads as common_value
use Rattle.field.proofs.right_value.Reads as right_value
use Rattle.words.proofs.word.Reads as word
use Rattle.words.proofs.copy.Reads as copy
use Rattle.words.proofs.clear_from.Reads as clear_from
use Rattle.words.proofs.from_bytes.Reads as from_bytes
use Rattle.words.proofs.to_bytes.Reads as to_bytes
use Rattle.flow.proofs.Match.meets.Reads as meets
use Rattle.flow.proofs.Match.overlap.Reads as overlap
use Rattle.flow.proofs.Match.lies_inside.Reads as lies_inside
use Rattle.flow.proofs.Match.common.Reads as common
use Rattle.flow.proofs.Match.is_empty.Reads as is_empty
use Rattle.flow.proofs.Match.contradicts.Reads as contradicts
use Rattle.flow.proofs.Match.constrains.Reads as constrains
use Rattle.flow.proofs.Match.is_right.Reads as right_match
use Rattle.flow.proofs.Match.is_plain.Reads as is_plain
use Rattle.flow.proofs.Packet.is_right.Reads as right_packet
use Rattle.flow.proofs.packets.PacketTryFromRefSliceU32.try_from.Reads as packet_try_from
use Rattle.flow.proofs.packets.PacketSpelling.read.Reads as read_packet
use Rattle.flow.proofs.matches.MatchSpelling.read.Reads as read_match
use Rattle.flow.proofs.packets.PacketWritten.write.Reads as write_packet
use Rattle.flow.proofs.matches.MatchWritten.write.Reads as write_match
use Rattle.flow.proofs.packets.PacketWordsFromPacket.from.Reads as words_of_packet
use Rattle.flow.proofs.matches.MatchWordsFromMatch.from.Reads as words_of_match
use Rattle.action.specs.declared.Operator.{Operator}
use Rattle.action.proofs.constants.Reads as action_constants
use Rattle.action.proofs.LawFailure.actions.Reads as failure_actions
use Rattle.action.proofs.Operator.join.Reads as operator_join
use Rattle.action.proofs.join_by.Reads as join_by
use Rattle.action.proofs.Operator.law_search.Reads as operator_law_search
use Rattle.action.proofs.Action.kind.Reads as kind
use Rattle.action.proofs.Action.rate.Reads as rate
use Rattle.action.proofs.Action.from_words.Reads as action_from_words
use Rattle.action.proofs.Action.right_words.Reads as right_words
use Rattle.action.proofs.ActionWordsFromAction.from.Reads as words_of_action
use Rattle.action.proofs.right_cell.Reads as right_cell
use Rattle.action.proofs.Operator.from_words.Reads as operator_from_words
use Rattle.row.proofs.RowSpellingSpelling.read.Reads as read_row
use Rattle.row.proofs.RowSpellingWritten.write.Reads as write_row
use Rattle.row.proofs.row_action.Reads as row_action
use Rattle.row.proofs.words_of_row.Reads as words_of_row
use Rattle.row.proofs.right_row.Reads as right_row
use Rattle.row.proofs.right_row_match.Reads as right_row_match
use Rattle.row.proofs.right_row_action.Reads as right_row_action
use Rattle.refusal.proofs.Reason.number.Reads as reason_number
use Rattle.refusal.proofs.Reason.failure.Reads as reason_failure
use Rattle.refusal.proofs.Reason.at.Reads as reason_at
use Rattle.refusal.proofs.RefusalFromInvalidPacket.from.Reads as refusal_from
use Rattle.policy.proofs.nodes.NodeSpelling.read.Reads as read_node
use Rattle.policy.proofs.read.Reads as read
use Rattle.policy.proofs.read_as.Reads as read_as
use Rattle.policy.proofs.Layout.first_atom.Reads as layout_first_atom
use Rattle.nodes.proofs.root.Reads as root
use Rattle.nodes.proofs.Spot.behind_own.Reads as behind_own
use Rattle.nodes.proofs.File.node_at.Reads as node_at
use Rattle.nodes.proofs.File.operator_at.Reads as operator_at
use Rattle.nodes.proofs.File.atoms_at.Reads as atoms_at
use Rattle.nodes.proofs.File.join_at.Reads as join_at
use Rattle.tree.proofs.tree_action.Reads as tree_action
use Rattle.table.proofs.scan.Reads as scan
use Rattle.table.proofs.check.Reads as check
use Rattle.table.proofs.Table.row_count.Reads as row_count
use Rattle.table.proofs.first_met.Reads as first_met
use Rattle.table.proofs.first_match.Reads as first_match
use Rattle.table.proofs.match_at.Reads as match_at
use Rattle.hidden.proofs.drop_hidden.Reads as drop_hidden
use Rattle.capture.proofs.scan_capture.Reads as scan_capture
use Rattle.priority.proofs.number.Reads as number
use Rattle.compile.proofs.compile.Reads as compile
use Rattle.std.specs.declared.clone.Clone as Clone
use Rattle.units.specs.declared.Unit as Unit
use Rattle.units.specs.declared.LyingWord as LyingWord
use Rattle.units.specs.declared.LyingRow as LyingRow
use Rattle.units.specs.contracts.U32Unit.TheImpl as U32Unit
use Rattle.units.specs.contracts.U8Unit.TheImpl as U8Unit
use Rattle.units.specs.contracts.U32LyingWord.TheImpl as U32LyingWord
use Rattle.units.specs.contracts.ArrayU8WORDBYTESLyingWord.TheImpl as ArrayU8WORDBYTESLyingWord
use Rattle.units.specs.contracts.RowWordsLyingRow.TheImpl as RowWordsLyingRow
use Rattle.units.specs.contracts.ArrayU8ROWBYTESLyingRow.TheImpl as ArrayU8ROWBYTESLyingRow
use Rattle.exports.proofs.agent_scan.Reads as agent_scan
use Rattle.exports.proofs.agent_number.Reads as agent_number
use Rattle.streams.specs.declared.sink.Sink.{Ghosts}
use Rattle.streams.specs.contracts.counter.Counter as Counter
use Rattle.streams.specs.contracts.counter.CounterSink.TheImpl as CounterSink
use Rattle.streams.proofs.low.Reads as low_bits
use Rattle.show.proofs.list_table.Reads as list_table
use Rattle.show.proofs.parts.HeadText.put.Reads as put_head
use Rattle.show.proofs.parts.LineText.put.Reads as put_line
use Rattle.show.proofs.plain.Reads as plain
use Rattle.show.proofs.parts.PlainRefusalText.put.Reads as put_plain
use Rattle.show.proofs.parts.RefusalText.put.Reads as put_refusal
use Rattle.text.proofs.list.Reads as list
use Rattle.calls.proofs.put_words.Reads as put_words
use Rattle.calls.proofs.reply_compile.Reads as reply_compile
use Rattle.calls.proofs.reply_number.Reads as reply_number
use Rattle.calls.proofs.reply_hidden.Reads as reply_hidden
use Rattle.calls.proofs.reply_capture.Reads as reply_capture
use Rattle.calls.proofs.reply_list.Reads as reply_list
use Rattle.calls.proofs.reply_agent_scan.Reads as reply_agent_scan
use Rattle.calls.proofs.reply_agent_number.Reads as reply_agent_number

-- an operator is its cells
by-cells : {o : Operator} {cells : List ℕ} → o.cells ≡ cells → o ≡ record { cells = cells }
by-cells = ap (λ c. record { cells = c })

-- a result, with the words of three lent buffers
abbrev answer_three : {X : Type 0} → X → List ℕ → List ℕ → List ℕ → X × List ℕ × List ℕ × List ℕ
answer_three r b c d = (r, b, c, d)

three : {X : Type 0} {r r' : X} {b b' c c' d d' : List ℕ} → r ≡ r' → b ≡ b' → c ≡ c' → d ≡ d' → answer_three r b c d ≡ answer_three r' b' c' d'
three p q e f = rw (p, q, e, f)

-- what is answered, or what is left in the buffers, is said by the contract
one-answers : List ((statement : Type 0) × statement)
one-answers =
    (OneAnswer in_prefix.Pre in_prefix.Post (λ κ r s. r), fixed (λ κ a r s p. p))
    ∷ (OneAnswer right_prefix.Pre right_prefix.Post (λ κ r s. r), fixed (λ κ a r s p. p))
    ∷ (OneAnswer prefixes_meet.Pre prefixes_meet.Post (λ κ r s. r), fixed (λ κ a r s p. p))
    ∷ (OneAnswer prefix_covers.Pre prefix_covers.Post (λ κ r s. r), fixed (λ κ a r s p. p))
    ∷ (OneAnswer longer.Pre longer.Post (λ κ r s. r), fixed (λ κ a r s p. p))
    ∷ (OneAnswer meets_value.Pre meets_value.Post (λ κ r s. r), fixed (λ κ a r s p. p))
    ∷ (OneAnswer values_meet.Pre values_meet.Post (λ κ r s. r), fixed (λ κ a r s p. p))
    ∷ (OneAnswer common_value.Pre common_value.Post (λ κ r s. r), fixed (λ κ a r s p. p))
    ∷ (OneAnswer right_value.Pre right_value.Post (λ κ r s. r), fixed (λ κ a r s p. p))
    ∷ (OneAnswer word.Pre word.Post (λ κ r s. r), fixed (λ κ a r s p. p))
    ∷ (OneAnswer copy.Pre copy.Post (λ κ r s. s.0.now), fixed (λ κ a r s p. p))
    ∷ (OneAnswer clear_from.Pre clear_from.Post (λ κ r s. s.0.now), fixed (λ κ a r s p. p))
    ∷ (OneAnswer from_bytes.Pre from_bytes.Post (λ κ r s. s.1.0.now), fixed (λ κ a r s p. p))
    ∷ (OneAnswer to_bytes.Pre to_bytes.Post (λ κ r s. s.1.0.now), fixed (λ κ a r s p. p))
    ∷ (OneAnswer meets.Pre meets.Post (λ κ r s. r), fixed (λ κ a r s p. p))
    ∷ (OneAnswer overlap.Pre overlap.Post (λ κ r s. r), fixed (λ κ a r s p. p))
    ∷ (OneAnswer lies_inside.Pre lies_inside.Post (λ κ r s. r), fixed (λ κ a r s p. p))
    ∷ (OneAnswer common.Pre common.Post (λ κ r s. r), fixed (λ κ a r s p. p))
    ∷ (OneAnswer is_empty.Pre is_empty.Post (λ κ r s. r), fixed (λ κ a r s p. p))
    ∷ (OneAnswer contradicts.Pre contradicts.Post (λ κ r s. r), fixed (λ κ a r s p. p))
    ∷ (OneAnswer constrains.Pre constrains.Post (λ κ r s. r), fixed (λ κ a r s p. p))
    ∷ (OneAnswer right_match.Pre right_match.Post (λ κ r s. r), fixed (λ κ a r s p. p))
    ∷ (OneAnswer is_plain.Pre is_plain.Post (λ κ r s. r), fixed (λ κ a r s p. p))
    ∷ (OneAnswer right_packet.Pre right_packet.Post (λ κ r s. r), fixed (λ κ a r s p. p))
    ∷ (OneAnswer packet_try_from.Pre packet_try_from.Post (λ κ r s. r), fixed (λ κ a r s p. p))
    ∷ (OneAnswer read_packet.Pre read_packet.Post (λ κ r s. r), fixed (λ κ a r s p. p))
    ∷ (OneAnswer read_match.Pre read_match.Post (λ κ r s. r), fixed (λ κ a r s p. p))
    ∷ (OneAnswer write_packet.Pre write_packet.Post (λ κ r s. s.0.now), fixed (λ κ a r s p. p))
    ∷ (OneAnswer write_match.Pre write_match.Post (λ κ r s. s.0.now), fixed (λ κ a r s p. p))
    ∷ (OneAnswer words_of_packet.Pre words_of_packet.Post (λ κ r s. r), fixed (λ κ a r s p. p))
    ∷ (OneAnswer words_of_match.Pre words_of_match.Post (λ κ r s. r), fixed (λ κ a r s p. p))
    ∷ (OneAnswer action_constants.Pre action_constants.Post (λ κ r s. r), fixed (λ κ a r s p. refl))
    ∷ (OneAnswer failure_actions.Pre failure_actions.Post (λ κ r s. r), fixed (λ κ a r s p. p))
    ∷ (OneAnswer operator_join.Pre operator_join.Post (λ κ r s. r), fixed (λ κ a r s p. p))
    ∷ (OneAnswer join_by.Pre join_by.Post (λ κ r s. r), fixed (λ κ a r s p. p))
    ∷ (OneAnswer operator_law_search.Pre operator_law_search.Post (λ κ r s. r), fixed (λ κ a r s p. p))
    ∷ (OneAnswer kind.Pre kind.Post (λ κ r s. r), fixed (λ κ a r s p. p.0))
    ∷ (OneAnswer rate.Pre rate.Post (λ κ r s. r), fixed (λ κ a r s p. p))
    ∷ (OneAnswer action_from_words.Pre action_from_words.Post (λ κ r s. r), fixed (λ κ a r s p. p))
    ∷ (OneAnswer right_words.Pre right_words.Post (λ κ r s. r), fixed (λ κ a r s p. p))
    ∷ (OneAnswer words_of_action.Pre words_of_action.Post (λ κ r s. r), fixed (λ κ a r s p. p))
    ∷ (OneAnswer right_cell.Pre right_cell.Post (λ κ r s. r), fixed (λ κ a r s p. p))
    ∷ (OneAnswer operator_from_words.Pre operator_from_words.Post (λ κ r s. r), fixed (λ κ a r s p. by-cells p))
    ∷ (OneAnswer row_action.Pre row_action.Post (λ κ r s. r), fixed (λ κ a r s p. p))
    ∷ (OneAnswer words_of_row.Pre words_of_row.Post (λ κ r s. r), fixed (λ κ a r s p. p))
    ∷ (OneAnswer read_row.Pre read_row.Post (λ κ r s. r), fixed (λ κ a r s p. p))
    ∷ (OneAnswer write_row.Pre write_row.Post (λ κ r s. s.0.now), fixed (λ κ a r s p. p))
    ∷ (OneAnswer right_row.Pre right_row.Post (λ κ r s. r), fixed (λ κ a r s p. p))
    ∷ (OneAnswer right_row_match.Pre right_row_match.Post (λ κ r s. r), fixed (λ κ a r s p. p))
    ∷ (OneAnswer right_row_action.Pre right_row_action.Post (λ κ r s. r), fixed (λ κ a r s p. p))
    ∷ (OneAnswer reason_number.Pre reason_number.Post (λ κ r s. r), fixed (λ κ a r s p. p))
    ∷ (OneAnswer reason_failure.Pre reason_failure.Post (λ κ r s. r), fixed (λ κ a r s p. p))
    ∷ (OneAnswer reason_at.Pre reason_at.Post (λ κ r s. r), fixed (λ κ a r s p. p))
    ∷ (OneAnswer refusal_from.Pre refusal_from.Post (λ κ r s. r), fixed (λ κ a r s p. p))
    ∷ (OneAnswer read_node.Pre read_node.Post (λ κ r s. r), fixed (λ κ a r s p. p))
    ∷ (OneAnswer read.Pre read.Post (λ κ r s. r), fixed (λ κ a r s p. p))
    ∷ (OneAnswer read_as.Pre read_as.Post (λ κ r s. r), fixed (λ κ a r s p. p))
    ∷ (OneAnswer layout_first_atom.Pre layout_first_atom.Post (λ κ r s. r), fixed (λ κ a r s p. p))
    ∷ (OneAnswer root.Pre root.Post (λ κ r s. r), fixed (λ κ a r s p. p))
    ∷ (OneAnswer behind_own.Pre behind_own.Post (λ κ r s. r), fixed (λ κ a r s p. p))
    ∷ (OneAnswer node_at.Pre node_at.Post (λ κ r s. r), fixed (λ κ a r s p. p))
    ∷ (OneAnswer operator_at.Pre operator_at.Post (λ κ r s. r), fixed (λ κ a r s p. by-cells p))
    ∷ (OneAnswer atoms_at.Pre atoms_at.Post (λ κ r s. r.now), fixed (λ κ a r s p. p))
    ∷ (OneAnswer join_at.Pre join_at.Post (λ κ r s. r), fixed (λ κ a r s p. p))
    ∷ (OneAnswer tree_action.Pre tree_action.Post (λ κ r s. r), fixed (λ κ a r s p. p))
    ∷ (OneAnswer drop_hidden.Pre drop_hidden.Post (λ κ r s. answer_with r s.0.now), fixed (λ κ a r s p. both p.0 p.1))
    ∷ (OneAnswer scan_capture.Pre scan_capture.Post (λ κ r s. answer_with r s.1.1.0.now), fixed (λ κ a r s p. both p.0 p.1))
    ∷ (OneAnswer agent_scan.Pre agent_scan.Post (λ κ r s. answer_with r s.1.1.0.now), fixed (λ κ a r s p. both p.0 p.1))
    ∷ (OneAnswer agent_number.Pre agent_number.Post (λ κ r s. answer_three r s.1.0.now s.1.1.0.now s.1.1.1.0.now), fixed (λ κ a r s p. three p.0 p.1.1.0 p.1.1.1 p.1.0))
    ∷ (OneAnswer compile.Pre compile.Post (λ κ r s. answer_and r s.1.0.now s.1.1.0.now), fixed (λ κ a r s p. all p.answer p.table p.scratch))
    ∷ (OneAnswer low_bits.Pre low_bits.Post (λ κ r s. r), fixed (λ κ a r s p. p))
    ∷ (OneAnswer plain.Pre plain.Post (λ κ r s. r), fixed (λ κ a r s p. p))
    ∷ []

-- what is seen of a sink whose type holds no reference: what it was, and the bytes that it was given, settle it
record SeenSink : Type 2 where
  sink : RattleType
  laws : Laws sink
  ghosts : Ghosts sink.Denot
  dict : Dict
  X : Type 0
  seen : sink.Denot → X
  holds_none : (i : ℕ) → Mem i sink.lives → ⊥
  settled : (a b c : sink.Denot) (xs : List ℕ) → ghosts.gives a xs b → ghosts.gives a xs c → seen b ≡ seen c

-- as how many bytes a counter has counted
counted : Laws Counter.the_row → Dict → SeenSink
counted L D = record {
  sink = Counter.the_row;
  laws = L;
  ghosts = CounterSink.ghosts;
  dict = D;
  X = ℕ;
  seen = λ c. c.low % 2 ^ 32;
  holds_none = λ i m. not-mem-nil m;
  settled = λ a b c xs p q. p ∙ sym q;
}

-- what a buffer of words is lent in, any type that is a unit and holds no reference: the type u with those of a word and of a row where they lie, w and r; then
-- for each its laws and what its traits say, in the order in which a contract over any unit takes them
record AnyUnit : Type 2 where
  u : RattleType
  w : RattleType
  r : RattleType
  ul : Laws u
  wl : Laws w
  rl : Laws r
  uc : IsCopy u
  wc : IsCopy w
  g : Unit.Ghosts u.Denot w.Denot r.Denot
  d : Dict
  c : Clone.Ghosts u.Denot
  cd : Dict
  wg : LyingWord.Ghosts w.Denot
  wd : Dict
  v : Clone.Ghosts w.Denot
  vd : Dict
  rg : LyingRow.Ghosts r.Denot
  rd : Dict
  u_none : (i : ℕ) → Mem i u.lives → ⊥
  w_none : (i : ℕ) → Mem i w.lives → ⊥
  r_none : (i : ℕ) → Mem i r.lives → ⊥

-- words, and their bytes
lent_words : Laws u32 → Laws (Array u32 11) → IsCopy u32 → Clone.Ghosts ℕ → Dict → AnyUnit
lent_words L R C c D = record {
  u = u32;
  w = u32;
  r = Array u32 11;
  ul = L;
  wl = L;
  rl = R;
  uc = C;
  wc = C;
  g = U32Unit.ghosts;
  d = D;
  c = c;
  cd = D;
  wg = U32LyingWord.ghosts;
  wd = D;
  v = c;
  vd = D;
  rg = RowWordsLyingRow.ghosts;
  rd = D;
  u_none = λ i m. not-mem-nil m;
  w_none = λ i m. not-mem-nil m;
  r_none = λ i m. not-mem-nil m;
}

lent_bytes : Laws u8 → Laws (Array u8 4) → Laws (Array u8 44) → IsCopy u8 → IsCopy (Array u8 4) → Clone.Ghosts ℕ → Clone.Ghosts (List ℕ) → Dict → AnyUnit
lent_bytes L W R C C' c c' D = record {
  u = u8;
  w = Array u8 4;
  r = Array u8 44;
  ul = L;
  wl = W;
  rl = R;
  uc = C;
  wc = C';
  g = U8Unit.ghosts;
  d = D;
  c = c;
  cd = D;
  wg = ArrayU8WORDBYTESLyingWord.ghosts;
  wd = D;
  v = c';
  vd = D;
  rg = ArrayU8ROWBYTESLyingRow.ghosts;
  rd = D;
  u_none = λ i m. not-mem-nil m;
  w_none = λ i m. not-mem-nil m;
  r_none = λ i m. not-mem-nil m;
}

-- a row where it lies, of any such type
record AnyRow : Type 2 where
  row : RattleType
  laws : Laws row
  ghosts : LyingRow.Ghosts row.Denot
  dict : Dict
  holds_none : (i : ℕ) → Mem i row.lives → ⊥

row_in_words : Laws (Array u32 11) → Dict → AnyRow
row_in_words L D = record { row = Array u32 11; laws = L; ghosts = RowWordsLyingRow.ghosts; dict = D; holds_none = λ i m. not-mem-nil m }

-- table: over any unit, and over rows of any type where they lie
scan-one : (U : AnyUnit) → OneAnswer (scan.Pre U.u U.w U.r U.ul U.wl U.rl U.uc U.wc U.g U.d U.c U.cd U.wg U.wd U.v U.vd U.rg U.rd)
    (scan.Post U.u U.w U.r U.ul U.wl U.rl U.uc U.wc U.g U.d U.c U.cd U.wg U.wd U.v U.vd U.rg U.rd) (λ κ r s. r)
scan-one U = record {
  asks_nothing = λ κ a. (λ i m. absurd (U.u_none i m), (λ i m. absurd (U.w_none i m), λ i m. absurd (U.r_none i m)));
  no_second = λ κ a r₁ r₂ s₁ s₂ p q. p ∙ sym q;
}

check-one : (U : AnyUnit) → OneAnswer (check.Pre U.u U.w U.r U.ul U.wl U.rl U.uc U.wc U.g U.d U.c U.cd U.wg U.wd U.v U.vd U.rg U.rd)
    (check.Post U.u U.w U.r U.ul U.wl U.rl U.uc U.wc U.g U.d U.c U.cd U.wg U.wd U.v U.vd U.rg U.rd) (λ κ r s. r)
check-one U = record {
  asks_nothing = λ κ a. (λ i m. absurd (U.u_none i m), (λ i m. absurd (U.w_none i m), λ i m. absurd (U.r_none i m)));
  no_second = λ κ a r₁ r₂ s₁ s₂ p q. p ∙ sym q;
}

row_count-one : (U : AnyUnit) → OneAnswer (row_count.Pre U.u U.w U.r U.ul U.wl U.rl U.uc U.wc U.g U.d U.c U.cd U.wg U.wd U.v U.vd U.rg U.rd)
    (row_count.Post U.u U.w U.r U.ul U.wl U.rl U.uc U.wc U.g U.d U.c U.cd U.wg U.wd U.v U.vd U.rg U.rd) (λ κ r s. r)
row_count-one U = record {
  asks_nothing = λ κ a. (λ i m. absurd (U.u_none i m), (λ i m. absurd (U.w_none i m), λ i m. absurd (U.r_none i m)));
  no_second = λ κ a r₁ r₂ s₁ s₂ p q. p ∙ sym q;
}

match_at-one : (U : AnyUnit) → OneAnswer (match_at.Pre U.u U.w U.r U.ul U.wl U.rl U.uc U.wc U.g U.d U.c U.cd U.wg U.wd U.v U.vd U.rg U.rd)
    (match_at.Post U.u U.w U.r U.ul U.wl U.rl U.uc U.wc U.g U.d U.c U.cd U.wg U.wd U.v U.vd U.rg U.rd) (λ κ r s. r)
match_at-one U = record {
  asks_nothing = λ κ a. (λ i m. absurd (U.u_none i m), (λ i m. absurd (U.w_none i m), λ i m. absurd (U.r_none i m)));
  no_second = λ κ a r₁ r₂ s₁ s₂ p q. p ∙ sym q;
}

first_met-one : (R : AnyRow) → OneAnswer (first_met.Pre R.row R.laws R.ghosts R.dict)
    (first_met.Post R.row R.laws R.ghosts R.dict) (λ κ r s. r)
first_met-one R = record { asks_nothing = λ κ a i m. absurd (R.holds_none i m); no_second = λ κ a r₁ r₂ s₁ s₂ p q. p ∙ sym q }

first_match-one : (R : AnyRow) → OneAnswer (first_match.Pre R.row R.laws R.ghosts R.dict)
    (first_match.Post R.row R.laws R.ghosts R.dict) (λ κ r s. r)
first_match-one R = record { asks_nothing = λ κ a i m. absurd (R.holds_none i m); no_second = λ κ a r₁ r₂ s₁ s₂ p q. p ∙ sym q }

-- priority: what is seen of the buffers are their words
number-one : (U : AnyUnit) → OneAnswer (number.Pre U.u U.w U.r U.ul U.wl U.rl U.uc U.wc U.g U.d U.c U.cd U.wg U.wd U.v U.vd U.rg U.rd)
    (number.Post U.u U.w U.r U.ul U.wl U.rl U.uc U.wc U.g U.d U.c U.cd U.wg U.wd U.v U.vd U.rg U.rd) (λ κ r s. answer_and r (U.g.words s.1.0.now) (U.g.words s.1.1.0.now))
number-one U = record {
  asks_nothing = λ κ a. (λ i m. absurd (U.u_none i m), (λ i m. absurd (U.w_none i m), λ i m. absurd (U.r_none i m)));
  no_second = λ κ a r₁ r₂ s₁ s₂ p q. all (p.0 ∙ sym q.0) (p.1 ∙ sym q.1) (p.2 ∙ sym q.2);
}

-- show: a table at any such sink, and the lines of a listing
list_table-one : (S : SeenSink) → OneAnswer (list_table.Pre S.sink S.laws S.ghosts S.dict) (list_table.Post S.sink S.laws S.ghosts S.dict)
    (λ κ r s. S.seen s.1.0.now)
list_table-one S = record { asks_nothing = λ κ a i m. absurd (S.holds_none i m); no_second = λ κ a r₁ r₂ s₁ s₂ p q. S.settled _ _ _ _ p q }

put_head-one : (S : SeenSink) → OneAnswer (put_head.Pre S.sink S.laws S.ghosts S.dict) (put_head.Post S.sink S.laws S.ghosts S.dict)
    (λ κ r s. S.seen s.1.0.now)
put_head-one S = record { asks_nothing = λ κ a i m. absurd (S.holds_none i m); no_second = λ κ a r₁ r₂ s₁ s₂ p q. S.settled _ _ _ _ p q }

put_line-one : (S : SeenSink) → OneAnswer (put_line.Pre S.sink S.laws S.ghosts S.dict) (put_line.Post S.sink S.laws S.ghosts S.dict)
    (λ κ r s. S.seen s.1.0.now)
put_line-one S = record { asks_nothing = λ κ a i m. absurd (S.holds_none i m); no_second = λ κ a r₁ r₂ s₁ s₂ p q. S.settled _ _ _ _ p q }

put_plain-one : (S : SeenSink) → OneAnswer (put_plain.Pre S.sink S.laws S.ghosts S.dict) (put_plain.Post S.sink S.laws S.ghosts S.dict)
    (λ κ r s. S.seen s.1.0.now)
put_plain-one S = record { asks_nothing = λ κ a i m. absurd (S.holds_none i m); no_second = λ κ a r₁ r₂ s₁ s₂ p q. S.settled _ _ _ _ p q }

put_refusal-one : (S : SeenSink) → OneAnswer (put_refusal.Pre S.sink S.laws S.ghosts S.dict) (put_refusal.Post S.sink S.laws S.ghosts S.dict)
    (λ κ r s. S.seen s.1.0.now)
put_refusal-one S = record { asks_nothing = λ κ a i m. absurd (S.holds_none i m); no_second = λ κ a r₁ r₂ s₁ s₂ p q. S.settled _ _ _ _ p q }

-- text
list-one : (S : SeenSink) → OneAnswer (list.Pre S.sink S.laws S.ghosts S.dict) (list.Post S.sink S.laws S.ghosts S.dict)
    (λ κ r s. S.seen s.1.0.now)
list-one S = record { asks_nothing = λ κ a i m. absurd (S.holds_none i m); no_second = λ κ a r₁ r₂ s₁ s₂ p q. S.settled _ _ _ _ p q }

-- calls
put_words-one : (S : SeenSink) → OneAnswer (put_words.Pre S.sink S.laws S.ghosts S.dict) (put_words.Post S.sink S.laws S.ghosts S.dict)
    (λ κ r s. S.seen s.1.0.now)
put_words-one S = record { asks_nothing = λ κ a i m. absurd (S.holds_none i m); no_second = λ κ a r₁ r₂ s₁ s₂ p q. S.settled _ _ _ _ p q }

reply_compile-one : (S : SeenSink) → OneAnswer (reply_compile.Pre S.sink S.laws S.ghosts S.dict) (reply_compile.Post S.sink S.laws S.ghosts S.dict)
    (λ κ r s. answer_and (S.seen s.1.1.1.0.now) s.1.0.now s.1.1.0.now)
reply_compile-one S = record {
  asks_nothing = λ κ a i m. absurd (S.holds_none i m);
  no_second = λ κ a r₁ r₂ s₁ s₂ p q. all (S.settled _ _ _ _ p.1.1 q.1.1) (p.0 ∙ sym q.0) (p.1.0 ∙ sym q.1.0);
}

reply_number-one : (S : SeenSink) → OneAnswer (reply_number.Pre S.sink S.laws S.ghosts S.dict) (reply_number.Post S.sink S.laws S.ghosts S.dict)
    (λ κ r s. answer_and (S.seen s.1.1.1.0.now) s.1.0.now s.1.1.0.now)
reply_number-one S = record {
  asks_nothing = λ κ a i m. absurd (S.holds_none i m);
  no_second = λ κ a r₁ r₂ s₁ s₂ p q. all (S.settled _ _ _ _ p.1.1 q.1.1) (p.0 ∙ sym q.0) (p.1.0 ∙ sym q.1.0);
}

reply_hidden-one : (S : SeenSink) → OneAnswer (reply_hidden.Pre S.sink S.laws S.ghosts S.dict) (reply_hidden.Post S.sink S.laws S.ghosts S.dict)
    (λ κ r s. answer_with (S.seen s.1.0.now) s.0.now)
reply_hidden-one S = record {
  asks_nothing = λ κ a i m. absurd (S.holds_none i m);
  no_second = λ κ a r₁ r₂ s₁ s₂ p q. both (S.settled _ _ _ _ p.1 q.1) (p.0 ∙ sym q.0);
}

reply_capture-one : (S : SeenSink) → OneAnswer (reply_capture.Pre S.sink S.laws S.ghosts S.dict) (reply_capture.Post S.sink S.laws S.ghosts S.dict)
    (λ κ r s. answer_with (S.seen s.1.1.1.0.now) s.1.1.0.now)
reply_capture-one S = record {
  asks_nothing = λ κ a i m. absurd (S.holds_none i m);
  no_second = λ κ a r₁ r₂ s₁ s₂ p q. both (S.settled _ _ _ _ p.1 q.1) (p.0 ∙ sym q.0);
}

reply_list-one : (S : SeenSink) → OneAnswer (reply_list.Pre S.sink S.laws S.ghosts S.dict) (reply_list.Post S.sink S.laws S.ghosts S.dict)
    (λ κ r s. S.seen s.1.0.now)
reply_list-one S = record { asks_nothing = λ κ a i m. absurd (S.holds_none i m); no_second = λ κ a r₁ r₂ s₁ s₂ p q. S.settled _ _ _ _ p q }

reply_agent_scan-one : (S : SeenSink) → OneAnswer (reply_agent_scan.Pre S.sink S.laws S.ghosts S.dict) (reply_agent_scan.Post S.sink S.laws S.ghosts S.dict)
    (λ κ r s. answer_with (S.seen s.1.1.1.0.now) s.1.1.0.now)
reply_agent_scan-one S = record {
  asks_nothing = λ κ a i m. absurd (S.holds_none i m);
  no_second = λ κ a r₁ r₂ s₁ s₂ p q. both (S.settled _ _ _ _ p.1 q.1) (p.0 ∙ sym q.0);
}

reply_agent_number-one : (S : SeenSink) → OneAnswer (reply_agent_number.Pre S.sink S.laws S.ghosts S.dict)
    (reply_agent_number.Post S.sink S.laws S.ghosts S.dict)
    (λ κ r s. answer_three (S.seen s.1.1.1.1.0.now) s.1.0.now s.1.1.0.now s.1.1.1.0.now)
reply_agent_number-one S = record {
  asks_nothing = λ κ a i m. absurd (S.holds_none i m);
  no_second = λ κ a r₁ r₂ s₁ s₂ p q.
      three (S.settled _ _ _ _ p.1.1.1 q.1.1.1) (p.1.0 ∙ sym q.1.0) (p.1.1.0 ∙ sym q.1.1.0) (p.0 ∙ sym q.0);
}
