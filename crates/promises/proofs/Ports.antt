-- Ports only where there are ports: each sentence from the laws of matches, or by computation. Assumes nothing.
use Rattle.std.proofs.Common.{ℕ, ◌<◌, ◌≡◌, refl, sym, ap, ◌∙◌, Bool, true, false, not, ◌||◌, List, ⊎_elim, inl, inr, eqb, eqb-true, lt-ltb}
use mathlib.Core.Bool.{and-eq-true_iff, and-true, and-false, or-true, false≢true}
use Rattle.logic.proofs.Tests.{and_both, or_split}
use Rattle.field.specs.Value.{right_value}
use Rattle.flow.specs.Packet.{protocol_limit}
use Rattle.flow.specs.Match.{source_port_flag, destination_port_flag, protocol_flag, port_flags, empty_flag, constrains, flagged, has_ports}
use Rattle.flow.specs.Match.{meets_ports, match_of}
use Rattle.flow.specs.Match.{is_empty, is_none, is_plain, right_match, fits, meets}
use Rattle.flow.specs.declared.Match.{Match}
use Rattle.flow.specs.declared.Packet.{Packet}
use Rattle.flow.proofs.Flags.{flag-either}
use Rattle.flow.proofs.Tests.{ports-met}
use Rattle.flow.proofs.Laws.{meets-common, overlap-exactly, empty-exactly, common-none}
use Rattle.row.specs.Row.{right_row}
use Rattle.table.proofs.Tables.{check-first}
use Rattle.promises.specs.Ports.{TcpOrUdp, PortMet, spoken, CountsAsEmpty, Follows, PortsOnly}
use Rattle.promises.proofs.Cases.{port-cases}
use Rattle.promises.proofs.TableFollowsTree.{table_follows_tree}
use Rattle.promises.proofs.SmallestNumbering.{smallest_numbering}
use Rattle.promises.proofs.HiddenLaws.{hidden_rows}

-- a protocol that has ports is one of the two
two : (p : Packet) → has_ports p.protocol ≡ true → TcpOrUdp p
two p e = ⊎_elim (λ t. inl (eqb-true _ _ t)) (λ u. inr (eqb-true _ _ u)) (or_split (eqb p.protocol 6) (eqb p.protocol 17) e)

-- and each of the two has them
has : (p : Packet) → TcpOrUdp p → has_ports p.protocol ≡ true
has p (inl t) = ap has_ports t
has p (inr u) = ap has_ports u

-- either port's flag is one of the ports' flags
either : (m : Match) → constrains port_flags m ≡ (constrains source_port_flag m || constrains destination_port_flag m)
either m = flag-either source_port_flag destination_port_flag m.flags

neither : (m : Match) → constrains source_port_flag m ≡ false → constrains destination_port_flag m ≡ false → constrains port_flags m ≡ false
neither m s d = either m ∙ rw (s, d)

-- where a packet passes the ports, the fields decide
passed : (m : Match) (p : Packet) → meets_ports (constrains port_flags m) p.protocol ≡ true → meets m p ≡ fits m p
unfolding meets
passed m p e = rw (e, and-true)

port-met : PortMet
unfolding meets_ports
port-met = record {
  source = λ m p on e. two p (ports-met m p (either m ∙ ap (λ (x : Bool). x || constrains destination_port_flag m) on) e);
  destination = λ m p on e.
      two p (ports-met m p (either m ∙ ap (λ (x : Bool). constrains source_port_flag m || x) on ∙ or-true (constrains source_port_flag m)) e);
  of_these = λ m p t.
      passed m p (ap (λ (x : Bool). not (constrains port_flags m) || x) (has p t) ∙ or-true (not (constrains port_flags m)));
  without = λ m p s d.
      passed m p (ap (λ (x : Bool). not x || has_ports p.protocol) (neither m s d));
}

-- a right match that constrains the protocol stays right with every protocol in range
right-protocol : (on : Bool) (q : ℕ) → on ≡ true → q < protocol_limit → right_value on protocol_limit q ≡ true
unfolding right_value
right-protocol on q e h = rw e (and_both (lt-ltb q protocol_limit h) refl)

stays_plain : (m : Match) (q : ℕ) → constrains protocol_flag m ≡ true → q < protocol_limit → is_plain m ≡ true → is_plain (spoken q m) ≡ true
unfolding is_plain
stays_plain m q on h e =
    let t = simp and-eq-true_iff at e in
    and_both (and_both (and_both (and_both (and_both (and_both t.0.0.0.0.0.0 t.0.0.0.0.0.1) (right-protocol _ q on h)) t.0.0.0.1)
    t.0.0.1) t.0.1) t.1

stays-right : (m : Match) (q : ℕ) → constrains protocol_flag m ≡ true → q < protocol_limit → right_match m ≡ true → right_match (spoken q m) ≡ true
unfolding right_match is_none
stays-right m q on h e =
    ⊎_elim
    (λ n. let t = simp and-eq-true_iff at n in
    absurd (false≢true (sym (ap (flagged protocol_flag) (eqb-true m.flags empty_flag t.1)) ∙ on)))
    (λ n. ap (λ (x : Bool). is_none (spoken q m) || x) (stays_plain m q on h n) ∙ or-true (is_none (spoken q m)))
    (or_split (is_none m) (is_plain m) e)

-- a row with an empty match is wrong
empty-wrong : (ws : List ℕ) → is_empty (match_of ws) ≡ true → right_row ws ≡ false
unfolding right_row
empty-wrong ws e = rw (e, and-false)

port-empty : CountsAsEmpty
port-empty = record {
  exactly = empty-exactly;
  atom = stays-right;
  no_row = λ r e. rw e;
  row = empty-wrong;
  refused = λ ws i right within before e. check-first ws i right (record {
    within = within;
    passes = ap not (empty-wrong _ e);
    skips = λ j h. ap not (before j h);
  });
}

port-follows : Follows
port-follows = record {
  common = meets-common;
  no_common = common-none;
  overlaps = overlap-exactly;
  hidden = hidden_rows.passed;
  table_follows_tree = table_follows_tree;
  smallest_numbering = smallest_numbering;
}

pub ports_only : PortsOnly
ports_only = record { met = port-met; counts = port-empty; follows = port-follows; cases = port-cases }
