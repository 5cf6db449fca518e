-- Logs that follow a memory, event by event, and that the laws of lists of accesses say the same of them.
use Rattle.std.proofs.Common.{◌≡◌, ℕ, zero, suc, ◌<◌, false, if◌then◌else◌, List, [], ◌∷◌, ◌++◌, length, None, refl, sym, ap, ◌∙◌, arith}
use Rattle.c_tree.specs.Arrays.{Memory, stored}
use Rattle.c_tree.specs.Accesses.{at}
use Rattle.c_tree.specs.Fault.{disturbed}
use Rattle.c_tree.specs.Run.{Event}
use Rattle.balance_laws.specs.Replay.{Replays, left_after, after_access}
use Rattle.run_laws.specs.Logs.{accesses_in, values_in}

-- the memory behind an event
abbrev pub after : Memory → Event → Memory
after m e = if e.access.writes then stored m e.access.array e.access.cell e.value else m

abbrev pub left : Memory → List Event → Memory
left m [] = m
left m (e ∷ es) = left (after m e) es

-- each read gives what its cell holds
abbrev pub IsReplay : Memory → List Event → Type 0
IsReplay m [] = Unit {0}
IsReplay m (e ∷ es) = (e.access.writes ≡ false → e.value ≡ m e.access.array e.access.cell) × IsReplay (after m e) es

pub left-append : (m : Memory) (xs ys : List Event) → left m (xs ++ ys) ≡ left (left m xs) ys
left-append m [] ys = refl
left-append m (x ∷ xs) ys = left-append (after m x) xs ys

pub replay_both : (m : Memory) (xs ys : List Event) → IsReplay m xs → IsReplay (left m xs) ys → IsReplay m (xs ++ ys)
replay_both m [] ys h k = k
replay_both m (x ∷ xs) ys h k = (h.0, replay_both (after m x) xs ys h.1 k)

-- ---- by positions

-- the memory before a position behind the first event is the one before it from the memory behind that event
left_tail : (e : Event) (es : List Event) (m : Memory) (n : ℕ) →
    left_after (accesses_in (e ∷ es)) (values_in (e ∷ es)) None m (suc n) ≡ left_after (accesses_in es) (values_in es) None (after m e) n
unfolding left_after after_access disturbed
left_tail e es m zero = refl
left_tail e es m (suc n) = ap (λ (k : Memory). after_access (accesses_in es) (values_in es) n k) (left_tail e es m n)

-- what a log leaves, event by event, is what it leaves by positions
pub left_by_positions : (m : Memory) (es : List Event) → left_after (accesses_in es) (values_in es) None m (length es) ≡ left m es
unfolding left_after
left_by_positions m [] = refl
left_by_positions m (e ∷ es) = left_tail e es m (length es) ∙ left_by_positions (after m e) es

pub replays : (m : Memory) (es : List Event) → IsReplay m es → Replays (accesses_in es) (values_in es) None m
unfolding disturbed left_after
replays m [] h q l w = absurd (let f : q < 0 = l in omega arith)
replays m (e ∷ es) h zero l w = h.0 w
replays m (e ∷ es) h (suc q) l w =
    replays (after m e) es h.1 q (omega arith) w ∙ ap (λ (k : Memory). k (at (accesses_in es) q).array (at (accesses_in es) q).cell) (sym (left_tail e es m q))
