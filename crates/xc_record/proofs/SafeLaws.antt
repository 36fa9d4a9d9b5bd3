-- Laws of the safe time.
use Rattle.std.proofs.Common.{◌≡◌, ℕ, zero, suc, ◌≤◌, true, not, List, [], ◌∷◌, take, length, map, subst, arith}
use Rattle.std.proofs.lemmas.Bool.Decides.{nat_tests}
use Rattle.std.specs.Prelude.{is_none, fold, filter, slice_index}
use Rattle.xc_record.specs.declared.record.Record.{Record}
use Rattle.xc_record.specs.declared.record.Logs.{Logs}
use Rattle.xc_record.specs.Order.{Progress, break_of, after, accepted_from}
use Rattle.xc_record.specs.Accepted.{AcceptedTablet, accepted_tablets}
use Rattle.xc_record.specs.Lists.{least}
use Rattle.xc_record.specs.SafeTime.{place, last_safe_in, is_closed_in, safe_time, IsPlaces}
use Rattle.xc_record.proofs.OrderLaws.{accepted-take}
use Rattle.xc_record.proofs.AcceptedLaws.{Each, IsGrown, accepted_tablets-grown}

-- what a safe record that breaks no rule does to the floor
pub break_of-floor : (p : Progress) (r : Record) → is_none (break_of p r) ≡ true → p.floor ≤ (after p r).floor
unfolding break_of
break_of-floor p r e = grind (arith, nat_tests)

pub floor-rises : (p : Progress) (rs : List Record) → accepted_from p rs ≡ rs → p.floor ≤ (fold after p rs).floor
floor-rises p [] e = omega arith
floor-rises p (r ∷ rs) e = grind (arith, floor-rises (after p r) rs, break_of-floor p r)

pub floor-take : (p : Progress) (m n : ℕ) (rs : List Record) → accepted_from p rs ≡ rs → m ≤ n
    → (fold after p (take m rs)).floor ≤ (fold after p (take n rs)).floor
floor-take p zero n rs e h = floor-rises p (take n rs) (subst (λ xs. accepted_from p (take n xs) ≡ take n xs) e (accepted-take p n rs))
floor-take p (suc m) zero rs e h = absurd (omega arith)
floor-take p (suc m) (suc n) [] e h = omega arith
floor-take p (suc m) (suc n) (r ∷ rs) e h = grind (arith, floor-take (after p r) m n rs)

-- the place of b does not fall, and stays within its records
pub record Advances (a a' : List ℕ) (b : AcceptedTablet) : Type 0 where
  pub rises : place a b ≤ place a' b
  pub within : place a' b ≤ length b.records

stays_closed : (a a' : List ℕ) (b : AcceptedTablet) → Advances a a' b → is_closed_in a b ≡ true → is_closed_in a' b ≡ true
stays_closed a a' b h e = grind (arith, nat_tests)

last_safe-rises : (a a' : List ℕ) (b : AcceptedTablet) → IsGrown b → Advances a a' b → last_safe_in a b ≤ last_safe_in a' b
last_safe-rises a a' b g h = floor-take b.start (place a b) (place a' b) b.records g.in_order h.rises

abbrev open_values : List ℕ → List AcceptedTablet → List ℕ
open_values a bs = map (last_safe_in a) (filter (λ b. not (is_closed_in a b)) bs)

least_rises : (a a' : List ℕ) (bs : List AcceptedTablet) → Each IsGrown bs → Each (Advances a a') bs
    → least (open_values a bs) ≤ least (open_values a' bs)
least_rises a a' [] g h = omega arith
least_rises a a' (b ∷ bs) g h = grind (arith, least_rises a a' bs g.1 h.1, last_safe-rises a a' b g.0 h.0, stays_closed a a' b h.0)

advances : (a a' : List ℕ) (bs : List AcceptedTablet) → ((s : ℕ) → slice_index a s ≤ slice_index a' s)
    → Each (λ b. place a' b ≤ length b.records) bs → Each (Advances a a') bs
advances a a' [] r w = tt
advances a a' (b ∷ bs) r w = (record { rises = r b.header.id; within = w.0 }, advances a a' bs r w.1)

-- the safe time does not fall as places rise, splits included
pub safe_time-rises : (logs : Logs) (a a' : List ℕ) → IsPlaces logs a' → ((s : ℕ) → slice_index a s ≤ slice_index a' s)
    → safe_time logs a ≤ safe_time logs a'
unfolding safe_time
safe_time-rises logs a a' p r =
    least_rises a a' (accepted_tablets logs) (accepted_tablets-grown logs) (advances a a' (accepted_tablets logs) r p.within)
