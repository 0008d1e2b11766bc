-- A packet that is shown for two matches: the packet of their common match, which is right and not empty where they overlap. Assumes nothing.
use Rattle.std.proofs.Common.{ℕ, suc, arith, ◌≡◌, refl, sym, ap, ◌∙◌, Bool, true, false, not, cond, ◌||◌, List, Some, None, nat_lt, ltb-true, ltb-false, subst}
use Rattle.std.proofs.lemmas.List.{get_or_past}
use Rattle.logic.proofs.Tests.{by-test, and_left, and_right}
use Rattle.flow.specs.Match.{in_port_flag, protocol_flag, source_port_flag, destination_port_flag, port_flags, constrains, tcp}
use Rattle.flow.specs.Match.{right_match, meets, overlap, both, common}
use Rattle.flow.specs.declared.Match.{Match}
use Rattle.flow.specs.declared.Packet.{Packet}
use Rattle.flow.proofs.Flags.{flag-or}
use Rattle.flow.proofs.Any.{any-right}
use Rattle.flow.proofs.Laws.{meets-common, meets-overlap, common-right, common-empty}
use Rattle.row.specs.Row.{rows_in}
use Rattle.table.specs.Table.{row_count, past, RightTable}
use Rattle.table.proofs.Tables.{length-rows, right-row-at}
use Rattle.priority.specs.Numbering.{Shared, link}
use Rattle.priority.proofs.After.{chain-forces}
use Rattle.witness.specs.Witness.{sample, shared_of}
use Rattle.witness.proofs.Samples.{sample-right, sample-meets}
use Rattle.command_promises.specs.Witnesses.{Witnesses, WitnessMeets, WitnessThere, Unset, Quiet, WitnessQuiet, matching_at, ChainWitnessed, WitnessesMeet}

module _ (a b : Match) where
  -- the packet that is shown where the two overlap
  shown : overlap a b ≡ true → shared_of a b ≡ Some (sample (common a b))
  unfolding shared_of
  shown e = rw e refl

  none-shown : overlap a b ≡ false → shared_of a b ≡ None
  unfolding shared_of
  none-shown e = rw e refl

  module _ (p : right_match a ≡ true) (q : right_match b ≡ true) where
    -- it is in range and meets both
    sampled-meets : overlap a b ≡ true → Witnesses a b (sample (common a b))
    sampled-meets e =
        let both = sym (meets-common a b (sample (common a b))) ∙ sample-meets (common a b) (common-empty a b ∙ ap not e) in (
          sample-right (common a b) (common-right a b p q),
          and_left (meets a (sample (common a b))) (meets b (sample (common a b))) both,
          and_right (meets a (sample (common a b))) (meets b (sample (common a b))) both,
        )

-- a packet that is shown is the one of the common match
is-shown : (a b : Match) (p : Packet) → shared_of a b ≡ Some p → (overlap a b ≡ true) × (sample (common a b) ≡ p)
is-shown a b p s =
    by-test (overlap a b)
    (λ e. let is : Some (sample (common a b)) ≡ Some p = sym (shown a b e) ∙ s in (e, cc))
    (λ f. let never : None ≡ Some p = sym (none-shown a b f) ∙ s in absurd cc)

-- A PACKET THAT IS SHOWN is in range and meets both
witness-meets : WitnessMeets
witness-meets a b x p q s = let h = is-shown a b x s in subst (λ y. Witnesses a b y) h.1 (sampled-meets a b p q h.0)

-- NONE IS SHOWN exactly where there is none
witness-there : WitnessThere
witness-there a b p q = (
  λ n x w. let e : overlap a b ≡ true = meets-overlap a b x w.1 w.2 in
      let never : Some (sample (common a b)) ≡ None = sym (shown a b e) ∙ n in cc,
  λ apart. by-test (overlap a b) (λ e. absurd (apart (sample (common a b)) (sampled-meets a b p q e))) (λ f. none-shown a b f),
)

module _ (a b : Match) (e : overlap a b ≡ true) where
  -- the common match constrains what either does
  together : (flag : ℕ) → constrains flag (common a b) ≡ (constrains flag a || constrains flag b)
  unfolding common both
  together flag = rw e (flag-or flag a.flags b.flags)

  unset : (flag : ℕ) → Unset flag a b → constrains flag (common a b) ≡ false
  unset flag u = together flag ∙ rw (u.0, u.1) refl

  -- and has a port if either has one
  has-port : ¬ Unset port_flags a b → constrains port_flags (common a b) ≡ true
  has-port w =
      together port_flags
      ∙ by-test (constrains port_flags a)
      (λ t. rw t refl)
      (λ f. by-test (constrains port_flags b) (λ t. rw (f, t) refl) (λ g. absurd (w (f, g))))

  -- what is not constrained
  quiet : Quiet a b (sample (common a b))
  unfolding sample
  quiet =
      let m = common a b in
      let named = λ (on : Bool). cond on m.protocol (cond (constrains port_flags m) tcp 0) in
      let ported = λ (on : Bool). cond on tcp 0 in record {
        in_port = λ u. ap (λ (on : Bool). cond on m.in_port 0) (unset in_port_flag u);
        source_port = λ u. ap (λ (on : Bool). cond on m.source_port 0) (unset source_port_flag u);
        destination_port = λ u. ap (λ (on : Bool). cond on m.destination_port 0) (unset destination_port_flag u);
        protocol = λ u w. ap named (unset protocol_flag u) ∙ ap ported (unset port_flags w);
        with_port = λ u w. ap named (unset protocol_flag u) ∙ ap ported (has-port w);
      }

-- A VALUE THAT NEITHER CONSTRAINS is 0, but for the protocol of a port
witness-quiet : WitnessQuiet
witness-quiet a b p s = let h = is-shown a b p s in subst (λ y. Quiet a b y) h.1 (quiet a b h.0)

-- each row of a right table has a right match, and what stands for a row past the last too
right-at : (ws : List ℕ) → RightTable ws → (i : ℕ) → right_match (matching_at ws i) ≡ true
right-at ws t i =
    by-test (nat_lt i (row_count ws))
    (λ h. (right-row-at ws t i (omega (arith, ltb-true))).matching)
    (λ h. rw (get_or_past (rows_in ws) i past (omega (arith, ltb-false, length-rows ws))) any-right)

-- OF EACH TWO NEIGHBOURS OF THE CHAIN a packet is shown
chain-witnessed : ChainWitnessed
chain-witnessed ws ps cs r k h =
    let i = link ws ps cs k in
    let j = link ws ps cs (suc k) in
    let s : Shared ws i j = ((chain-forces ws ps cs r).2 k h).1 in
    let a = matching_at ws i in
    let b = matching_at ws j in
    let e : overlap a b ≡ true = meets-overlap a b s.packet s.left s.right in
    (sample (common a b), shown a b e, sampled-meets a b (right-at ws r.right i) (right-at ws r.right j) e)

pub witnesses_meet : WitnessesMeet
witnesses_meet = (witness-meets, witness-there, witness-quiet, chain-witnessed)
