-- Each call takes bytes, so that the replies are those to call after call. Assumes nothing.
use Rattle.std.proofs.Common.{◌≡◌, refl, sym, ap, ◌∙◌, arith, ℕ, zero, suc, ◌+◌, ◌*◌, ◌<◌, ◌≤◌, Bool, true, false, cond, eqb, List, [], ◌++◌, length, length-append, Some, None}
use Rattle.std.specs.declared.option.Option.{Option}
use Rattle.words.specs.Bytes.{word_bytes, word_of, words_in}
use Rattle.calls.specs.Sent.{most_words, most_bytes, most_lent, padding}
use Rattle.calls.specs.Calls.{Call, read, tree_action, compile, scan, number, list, hidden, capture, agent_scan, agent_number, reply_of}
use Rattle.calls.specs.Calls.{read_call, tree_action_call, compile_call, scan_call, number_call, list_call, hidden_call, capture_call}
use Rattle.calls.specs.Calls.{agent_scan_call, agent_number_call}
use Rattle.calls.specs.Taken.{found, then_in, bytes_in, word_in, at_most, count_in, slice_in, two_in, three_in, text_in, body_in, call_in}
use Rattle.calls.specs.Taken.{two_lent_in, three_lent_in, four_lent_in}
use Rattle.calls.specs.Session.{replies_then, session_up_to, session}
use Rattle.calls.specs.Theorems.{CallShorter, SessionStep}
use Rattle.calls.proofs.Found.{halves, found_of, then_of, found_bytes}

-- what is left is no longer than what there was, less so much
Shorter : {A : Type 0} → ℕ → (List ℕ → Option A × List ℕ) → Type 0
Shorter {A} n find = (b rest : List ℕ) (x : A) → find b ≡ (Some x, rest) → length rest + n ≤ length b

bytes-shorter : (n : ℕ) → Shorter n (bytes_in n)
unfolding Shorter
bytes-shorter n b rest x e =
    let p = found_bytes n b x rest e in
    omega (arith, ap length p.0, length-append x rest, p.1)

found-shorter : {A B : Type 0} (n : ℕ) (f : A → B) (find : List ℕ → Option A × List ℕ) → Shorter n find → Shorter n (λ b. found f (find b))
unfolding Shorter
found-shorter n f find h b rest x e =
    let p = found_of f (find b) x rest e in
    h b rest p.0 p.1

then-shorter : {A B : Type 0} (m n : ℕ) (find : List ℕ → Option A × List ℕ) (more : A → List ℕ → Option B × List ℕ) → Shorter m find
    → ((x : A) → Shorter n (more x)) → Shorter (m + n) (λ b. then_in (find b) more)
unfolding Shorter
then-shorter m n find more h k b rest y e =
    let p = then_of (find b) more y rest e in
    omega (arith, h b p.1 p.0 p.2, k p.0 p.1 rest y p.3)

less-shorter : {A : Type 0} (m n : ℕ) (find : List ℕ → Option A × List ℕ) → n ≤ m → Shorter m find → Shorter n find
unfolding Shorter
less-shorter m n find l h b rest x e = omega (arith, h b rest x e)

word-shorter : Shorter word_bytes word_in
unfolding word_in
word-shorter = found-shorter word_bytes word_of (bytes_in word_bytes) (bytes-shorter word_bytes)

most-shorter : (most n : ℕ) → Shorter 0 (at_most most n)
unfolding Shorter
most-shorter most n b rest x e =
    omega (arith, ap length (halves _ _ e).1)

count-shorter : (most : ℕ) → Shorter word_bytes (count_in most)
unfolding count_in
count-shorter most = then-shorter word_bytes 0 word_in (at_most most) word-shorter (most-shorter most)

-- so many bytes, as a function has them
part-shorter : {A : Type 0} (n : ℕ) (f : List ℕ → A) → Shorter 0 (λ b. found f (bytes_in n b))
part-shorter n f = less-shorter n 0 (λ b. found f (bytes_in n b)) (omega arith) (found-shorter n f (bytes_in n) (bytes-shorter n))

slice-shorter : Shorter 0 slice_in
unfolding slice_in
slice-shorter =
    less-shorter word_bytes 0 slice_in (omega arith)
    (then-shorter word_bytes 0 (count_in most_words) (λ n rest. found words_in (bytes_in (word_bytes * n) rest)) (count-shorter most_words)
    (λ n. part-shorter (word_bytes * n) words_in))

two-shorter : Shorter 0 two_in
unfolding two_in
two-shorter = then-shorter 0 0 slice_in (λ x rest. found (λ y. (x, y)) (slice_in rest)) slice-shorter
    (λ x. found-shorter 0 (λ y. (x, y)) slice_in slice-shorter)

three-shorter : Shorter 0 three_in
unfolding three_in
three-shorter =
    then-shorter 0 0 two_in (λ x rest. found (λ z. (x.0, x.1, z)) (slice_in rest)) two-shorter
    (λ x. found-shorter 0 (λ z. (x.0, x.1, z)) slice_in slice-shorter)

text-shorter : (most : ℕ) → Shorter 0 (text_in most)
unfolding text_in
text-shorter most =
    less-shorter word_bytes 0 (text_in most) (omega arith)
    (then-shorter word_bytes 0 (count_in most)
    (λ n rest. then_in (bytes_in n rest) (λ text behind. found (λ pad. text) (bytes_in (padding n) behind)))
    (count-shorter most)
    (λ n.
    then-shorter 0 0 (bytes_in n) (λ text behind. found (λ pad. text) (bytes_in (padding n) behind))
    (less-shorter n 0 (bytes_in n) (omega arith) (bytes-shorter n))
    (λ text. part-shorter (padding n) (λ pad. text))))

two_lent-shorter : Shorter 0 two_lent_in
unfolding two_lent_in
two_lent-shorter =
    then-shorter 0 0 (text_in most_lent) (λ x rest. found (λ y. (x, y)) (text_in most_lent rest)) (text-shorter most_lent)
    (λ x. found-shorter 0 (λ y. (x, y)) (text_in most_lent) (text-shorter most_lent))

three_lent-shorter : Shorter 0 three_lent_in
unfolding three_lent_in
three_lent-shorter =
    then-shorter 0 0 two_lent_in (λ x rest. found (λ z. (x.0, x.1, z)) (text_in most_lent rest)) two_lent-shorter
    (λ x. found-shorter 0 (λ z. (x.0, x.1, z)) (text_in most_lent) (text-shorter most_lent))

four_lent-shorter : Shorter 0 four_lent_in
unfolding four_lent_in
four_lent-shorter =
    then-shorter 0 0 three_lent_in (λ x rest. found (λ w. (x.0, x.1, x.2, w)) (text_in most_lent rest)) three_lent-shorter
    (λ x. found-shorter 0 (λ w. (x.0, x.1, x.2, w)) (text_in most_lent) (text-shorter most_lent))

either-shorter : {A : Type 0} (t : Bool) (f g : List ℕ → Option A × List ℕ) → Shorter 0 f → Shorter 0 g → Shorter 0 (λ b. cond t (f b) (g b))
unfolding Shorter
either-shorter true f g h k = h
either-shorter false f g h k = k

none-shorter : (A : Type 0) → Shorter {A = A} 0 (λ b. (None, b))
unfolding Shorter
none-shorter A b rest x e = omega (arith, ap length (halves _ _ e).1)

body-shorter : (n : ℕ) → Shorter 0 (body_in n)
unfolding body_in
body-shorter n =
    either-shorter (eqb n read_call) _ _ (found-shorter 0 (λ f. read f) slice_in slice-shorter)
    (either-shorter (eqb n tree_action_call) _ _ (found-shorter 0 (λ s. tree_action s.0 s.1) two_in two-shorter)
    (either-shorter (eqb n compile_call) _ _ (found-shorter 0 (λ s. compile s.0 s.1 s.2) three_in three-shorter)
    (either-shorter (eqb n scan_call) _ _ (found-shorter 0 (λ s. scan s.0 s.1) two_in two-shorter)
    (either-shorter (eqb n number_call) _ _ (found-shorter 0 (λ s. number s.0 s.1 s.2) three_in three-shorter)
    (either-shorter (eqb n list_call) _ _ (found-shorter 0 (λ t. list t) (text_in most_bytes) (text-shorter most_bytes))
    (either-shorter (eqb n hidden_call) _ _ (found-shorter 0 (λ t. hidden t) slice_in slice-shorter)
    (either-shorter (eqb n capture_call) _ _ (found-shorter 0 (λ s. capture s.0 s.1 s.2) three_in three-shorter)
    (either-shorter (eqb n agent_scan_call) _ _ (found-shorter 0 (λ s. agent_scan s.0 s.1 s.2) three_lent_in three_lent-shorter)
    (either-shorter (eqb n agent_number_call) _ _ (found-shorter 0 (λ s. agent_number s.0 s.1 s.2 s.3) four_lent_in four_lent-shorter)
    (none-shorter Call))))))))))

pub call-shorter : CallShorter
unfolding call_in Shorter
call-shorter bytes rest call e = then-shorter word_bytes 0 word_in body_in word-shorter body-shorter bytes rest call e

-- the replies behind a call, by two functions that are one on what is shorter
step : (b : List ℕ) (f g : List ℕ → List ℕ) → ((rest : List ℕ) → length rest < length b → f rest ≡ g rest) → (o : Option Call × List ℕ) → call_in b ≡ o
    → replies_then o f ≡ replies_then o g
step b f g h (None, rest) e = refl
step b f g h (Some call, rest) e = ap (λ l. reply_of call ++ l) (h rest (omega (arith, call-shorter b rest call e)))

-- no bytes are no call
no_call : (b : List ℕ) (f : List ℕ → List ℕ) → length b ≤ 0 → (o : Option Call × List ℕ) → call_in b ≡ o → replies_then o f ≡ []
no_call b f h (None, rest) e = refl
no_call b f h (Some call, rest) e = absurd (omega (arith, call-shorter b rest call e))

-- as many calls as there are bytes are all
enough : (n m : ℕ) (b : List ℕ) → length b ≤ n → length b ≤ m → session_up_to n b ≡ session_up_to m b
unfolding session_up_to
enough zero zero b h k = refl
enough zero (suc m) b h k = sym (no_call b (session_up_to m) h (call_in b) refl)
enough (suc n) zero b h k = no_call b (session_up_to n) k (call_in b) refl
enough (suc n) (suc m) b h k = step b (session_up_to n) (session_up_to m) (λ rest l. enough n m rest (omega arith) (omega arith)) (call_in b) refl

pub session-step : SessionStep
unfolding session session_up_to
session-step b =
    enough (length b) (suc (length b)) b (omega arith) (omega arith)
    ∙ step b (session_up_to (length b)) session (λ rest l. enough (length b) (length rest) rest (omega arith) (omega arith)) (call_in b) refl

-- no bytes are answered by none, and what is no call too
pub session-none : (b : List ℕ) → length b ≤ 0 → session b ≡ []
session-none b h = session-step b ∙ no_call b session h (call_in b) refl
