-- Laws of accepted_tablets.
use Rattle.std.proofs.Common.{◌≡◌, ℕ, zero, suc, Bool, true, false, List, [], ◌∷◌, ◌++◌, map, refl, sym, ap, ◌∙◌, subst, append-nil}
use Rattle.std.proofs.Common.{append_assoc}
use Rattle.std.specs.Prelude.{fold, if◌then◌else◌, slice_get, Some}
use Rattle.std.specs.Option.{option_map_or}
use Rattle.std.proofs.lemmas.List.{map-append}
use Rattle.xc_record.specs.Valid.{headers_of}
pub use Rattle.std.specs.List.{AllByRecursion as Each}
use Rattle.xc_record.specs.declared.record.Header.{Header}
use Rattle.xc_record.specs.declared.record.Record.{Record}
use Rattle.xc_record.specs.declared.record.Tablet.{Tablet}
use Rattle.xc_record.specs.declared.record.Logs.{Logs}
use Rattle.xc_record.specs.Order.{Progress, after, accepted_from}
use Rattle.xc_record.specs.Accepted.{AcceptedTablet, accepted_tablets, accepted_tablet, accepted_tablets_after, accepted_tablet_after}
use Rattle.xc_record.specs.Accepted.{start_after, reached_after, records}
use Rattle.xc_record.proofs.OrderLaws.{accepted-accepted}
use Rattle.xc_record.proofs.ListLaws.{Each-append}

pub accepted-reached : (reached : Bool) (p : Progress) (rs : List Record)
    → accepted_from p (if reached then accepted_from p rs else []) ≡ if reached then accepted_from p rs else []
accepted-reached true p rs = accepted-accepted p rs
accepted-reached false p rs = refl

-- its records are in order from its start, and its end is the progress after them
pub record IsGrown (b : AcceptedTablet) : Type 0 where
  pub in_order : accepted_from b.start b.records ≡ b.records
  pub end : b.end ≡ fold after b.start b.records

pub accepted_tablet_after-grown : (before : List AcceptedTablet) (t : Tablet) → IsGrown (accepted_tablet_after before t)
accepted_tablet_after-grown before t = record {
  in_order = accepted-reached (reached_after before t.header.parent) (start_after before t.header.parent) t.records;
  end = refl;
}

pub accepted_tablets_after-grown : (before : List AcceptedTablet) (ts : List Tablet) → Each IsGrown before
    → Each IsGrown (accepted_tablets_after before ts)
accepted_tablets_after-grown before [] h = h
accepted_tablets_after-grown before (t ∷ ts) h =
    accepted_tablets_after-grown (before ++ accepted_tablet_after before t ∷ []) ts
    (Each-append IsGrown before (accepted_tablet_after before t ∷ []) h (accepted_tablet_after-grown before t, tt))

pub accepted_tablets-grown : (logs : Logs) → Each IsGrown (accepted_tablets logs)
unfolding accepted_tablets
accepted_tablets-grown logs = accepted_tablets_after-grown [] logs.tablets tt

abbrev pub heads : List AcceptedTablet → List Header
heads bs = map (λ b. b.header) bs

-- the accepted tablets have the tablets' headers
pub headers-after : (before : List AcceptedTablet) (ts : List Tablet)
    → heads (accepted_tablets_after before ts) ≡ heads before ++ headers_of ts
headers-after before [] = sym (append-nil (heads before))
headers-after before (t ∷ ts) =
    headers-after (before ++ accepted_tablet_after before t ∷ []) ts
    ∙ ap (λ hs. hs ++ headers_of ts) (map-append (λ (b : AcceptedTablet). b.header) before (accepted_tablet_after before t ∷ []))
    ∙ append_assoc (heads before) (t.header ∷ []) (headers_of ts)

-- ---- the accepted records of a tablet of the logs

abbrev AreOf : List AcceptedTablet → List Tablet → Type 0
AreOf [] [] = Unit {0}
AreOf (b ∷ bs) (t ∷ ts) = (b.records ≡ (if b.reached then accepted_from b.start t.records else [])) × AreOf bs ts
AreOf _ _ = ⊥

AreOf-snoc : (bs : List AcceptedTablet) (ts : List Tablet) (b : AcceptedTablet) (t : Tablet) → AreOf bs ts
    → b.records ≡ (if b.reached then accepted_from b.start t.records else []) → AreOf (bs ++ b ∷ []) (ts ++ t ∷ [])
AreOf-snoc [] [] b t h e = (e, tt)
AreOf-snoc (x ∷ bs) (u ∷ ts) b t h e = (h.0, AreOf-snoc bs ts b t h.1 e)
AreOf-snoc [] (u ∷ ts) b t h e = absurd h
AreOf-snoc (x ∷ bs) [] b t h e = absurd h

AreOf-after : (before : List AcceptedTablet) (done ts : List Tablet) → AreOf before done
    → AreOf (accepted_tablets_after before ts) (done ++ ts)
AreOf-after before done [] h = subst (AreOf before) (sym (append-nil done)) h
AreOf-after before done (t ∷ ts) h =
    subst (AreOf (accepted_tablets_after (before ++ accepted_tablet_after before t ∷ []) ts)) (append_assoc done (t ∷ []) ts)
    (AreOf-after (before ++ accepted_tablet_after before t ∷ []) (done ++ t ∷ []) ts
    (AreOf-snoc before done (accepted_tablet_after before t) t h refl))

AreOf-at : (bs : List AcceptedTablet) (ts : List Tablet) (s : ℕ) (b : AcceptedTablet) → AreOf bs ts → slice_get bs s ≡ Some b
    → b.records ≡ (if b.reached then accepted_from b.start (option_map_or (λ (t : Tablet). t.records) (slice_get ts s) []) else [])
AreOf-at [] [] s b h e = cc
AreOf-at (x ∷ bs) (t ∷ ts) zero b h e =
    let same : x ≡ b =
    cc in subst (λ (y : AcceptedTablet). y.records ≡ (if y.reached then accepted_from y.start t.records else [])) same h.0
AreOf-at (x ∷ bs) (t ∷ ts) (suc s) b h e = AreOf-at bs ts s b h.1 e
AreOf-at [] (u ∷ ts) s b h e = absurd h
AreOf-at (x ∷ bs) [] s b h e = absurd h

-- of a tablet that is reached they are those before the first break
pub accepted-records : (logs : Logs) (s : ℕ) (b : AcceptedTablet) → accepted_tablet logs s ≡ Some b → b.reached ≡ true
    → b.records ≡ accepted_from b.start (records logs s)
unfolding accepted_tablets
accepted-records logs s b e reached =
    AreOf-at (accepted_tablets_after [] logs.tablets) logs.tablets s b (AreOf-after [] [] logs.tablets tt) e
    ∙ ap (λ c. if c then accepted_from b.start (records logs s) else []) reached
