-- The accepted tablets of well-formed logs: each has its number, and each child begins where its parent ends.
--     heads bs      their headers
--     Under bs b      b has no parent, or its parent is among bs under its number, and b begins at the parent's end
use Rattle.xc_model.proofs.Common.{◌≡◌, ℕ, ◌<◌, true, false, ◌&&◌, List, [], ◌∷◌, ◌++◌, length, Option, Some, None, refl, ap, sym, ◌∙◌}
use Rattle.xc_model.proofs.Common.{subst, arith, and_parts, eqb-true, length-map, map-append, slice_get_within, slice_get-map, none-some}
use Rattle.xc_model.proofs.Common.{slice_get, option_map, if◌then◌else◌, option_map_or, Header, Tablet, Logs, Next, accepted_from, fits}
use Rattle.xc_model.proofs.Common.{fit_from, next_after, headers_fit, AcceptedTablet, root_start, child_start, start_after, reached_after}
use Rattle.xc_model.proofs.Common.{accepted_tablet_after, accepted_tablets_after, accepted_tablets, is_closed_in, is_closed, is_valid}
use Rattle.xc_model.proofs.Common.{headers_of, Each, Each-append, Each-weaker, line, Numbered, Fits, Fits-none, Fits-snoc, headers_fit-all}
use Rattle.xc_model.proofs.Common.{parent_stands}
use Rattle.xc_record.specs.declared.headers.Next.TheVariants.{RootAt}
use Rattle.xc_record.proofs.HeaderLaws.{Line}
pub use Rattle.xc_record.proofs.ListLaws.{each-get, each-from, slice_get-append as get-append}
pub use Rattle.xc_record.proofs.AcceptedLaws.{heads, headers-after}
pub use Rattle.xc_record.proofs.ValidLaws.{valid-headers, header-at, number-is as get-id}

-- ---- what a tablet has of its parent

pub record UnderParent (bs : List AcceptedTablet) (p : ℕ) (b : AcceptedTablet) : Type 0 where
  pub parent : AcceptedTablet
  pub there : slice_get bs p ≡ Some parent
  pub below : p < b.header.id
  pub start : b.start ≡ child_start parent
  pub floor : parent.end.floor ≡ b.start.floor
  pub unsplit : parent.end.split ≡ false → b.records ≡ []

abbrev pub Under : List AcceptedTablet → AcceptedTablet → Type 0
Under bs b = (p : ℕ) → b.header.parent ≡ Some p → UnderParent bs p b

under-more : (bs more : List AcceptedTablet) (b : AcceptedTablet) → Under bs b → Under (bs ++ more) b
under-more bs more b u p e = let h : UnderParent bs p b = u p e in record {
  parent = h.parent;
  there = get-append bs more p h.parent h.there;
  below = h.below;
  start = h.start;
  floor = h.floor;
  unsplit = h.unsplit;
}

not-reached : (d : AcceptedTablet) → d.end.split ≡ false → (d.reached && d.end.split) ≡ false
not-reached d e = grind arith

-- a tablet whose parent stands before it
under-there : (bs : List AcceptedTablet) (t : Tablet) (p : ℕ) (d : AcceptedTablet) → t.header.parent ≡ Some p → slice_get bs p ≡ Some d
    → p < t.header.id → UnderParent bs p (accepted_tablet_after bs t)
under-there bs t p d e g l = record {
  parent = d;
  there = g;
  below = l;
  start = ap (start_after bs) e ∙ ap (λ o. option_map_or child_start o root_start) g;
  floor = sym (ap (λ q. (start_after bs q).floor) e ∙ ap (λ o. (option_map_or child_start o root_start).floor) g);
  unsplit = λ s. ap (λ b. if b then accepted_from (start_after bs t.header.parent) t.records else []) (ap (reached_after bs) e
      ∙ ap (λ o. option_map_or (λ (a : AcceptedTablet). a.reached && a.end.split) o false) g ∙ not-reached d s);
}

under-one : (bs : List AcceptedTablet) (next : Next) (t : Tablet) → Fits (heads bs) next → fits (heads bs) next t.header ≡ true
    → Under bs (accepted_tablet_after bs t)
under-one bs next t f k p e = go (slice_get bs p) refl
  where
    stands : (parent : Header) × (slice_get (heads bs) p ≡ Some parent)
    stands = parent_stands (heads bs) next t.header p f k e

    go : (o : Option AcceptedTablet) → slice_get bs p ≡ o → UnderParent bs p (accepted_tablet_after bs t)
    go None g = let none : None ≡ Some stands.0 = sym (slice_get-map (λ (b : AcceptedTablet). b.header) bs p
        ∙ ap (option_map (λ (b : AcceptedTablet). b.header)) g) ∙ stands.1 in absurd (none-some stands.0 none)
    go (Some d) g = let id : t.header.id ≡ length (heads bs) = eqb-true _ _ (and_parts _ _ k).0 in
        let l : p < length bs = slice_get_within bs p d g in
        let n : length (heads bs) ≡ length bs = length-map bs (λ (b : AcceptedTablet). b.header) in
        under-there bs t p d e g (omega arith)

heads-push : (bs : List AcceptedTablet) (t : Tablet) → heads (bs ++ accepted_tablet_after bs t ∷ []) ≡ heads bs ++ t.header ∷ []
heads-push bs t = map-append (λ (b : AcceptedTablet). b.header) bs (accepted_tablet_after bs t ∷ [])

under-from : (bs : List AcceptedTablet) (next : Next) (ts : List Tablet) → Fits (heads bs) next
    → fit_from (heads bs) next (headers_of ts) ≡ true → Each (Under bs) bs
    → Each (Under (accepted_tablets_after bs ts)) (accepted_tablets_after bs ts)
under-from bs next [] f e h = h
under-from bs next (t ∷ ts) f e h = let b = accepted_tablet_after bs t in let parts = and_parts _ _ e in
    let n = next_after (heads bs) next t.header t.header.parent in
    under-from (bs ++ b ∷ []) n ts (subst (λ w. Fits w n) (sym (heads-push bs t)) (Fits-snoc (heads bs) next t.header f parts.0))
    (subst (λ w. fit_from w n (headers_of ts) ≡ true) (sym (heads-push bs t)) parts.1)
    (Each-append (Under (bs ++ b ∷ [])) bs (b ∷ []) (Each-weaker (Under bs) (Under (bs ++ b ∷ [])) (λ c u. under-more bs (b ∷ []) c u) bs h)
    (under-more bs (b ∷ []) b (under-one bs next t f parts.0), tt))

-- a root begins at floor 0 and time 0
abbrev pub StartsRoot : AcceptedTablet → Type 0
StartsRoot b = b.header.parent ≡ None → b.start ≡ root_start

roots-from : (bs : List AcceptedTablet) (ts : List Tablet) → Each StartsRoot bs → Each StartsRoot (accepted_tablets_after bs ts)
roots-from bs [] h = h
roots-from bs (t ∷ ts) h = roots-from (bs ++ accepted_tablet_after bs t ∷ []) ts
    (Each-append StartsRoot bs (accepted_tablet_after bs t ∷ []) h ((λ e. ap (start_after bs) e), tt))

-- ---- the accepted tablets of logs

pub heads-logs : (logs : Logs) → heads (accepted_tablets logs) ≡ headers_of logs.tablets
unfolding accepted_tablets
heads-logs logs = headers-after [] logs.tablets

pub length-logs : (logs : Logs) → length (accepted_tablets logs) ≡ length logs.tablets
length-logs logs = sym (length-map (accepted_tablets logs) (λ (b : AcceptedTablet). b.header)) ∙ ap length (heads-logs logs)
    ∙ length-map logs.tablets (λ (t : Tablet). t.header)

-- an accepted tablet's header stands under its number
pub header-get : (logs : Logs) (i : ℕ) (b : AcceptedTablet) → is_valid logs ≡ true → slice_get (accepted_tablets logs) i ≡ Some b
    → slice_get (headers_of logs.tablets) b.header.id ≡ Some b.header
header-get logs i b v e = ap (slice_get (headers_of logs.tablets)) (get-id logs i b v e) ∙ header-at logs i b e

-- what holds of each tablet that stands under its number
pub each-tablet : (logs : Logs) → is_valid logs ≡ true → (P : AcceptedTablet → Type 0)
    → ((b : AcceptedTablet) → slice_get (accepted_tablets logs) b.header.id ≡ Some b → P b) → Each P (accepted_tablets logs)
each-tablet logs v P f = each-from P (accepted_tablets logs)
    (λ i b e. f b (ap (slice_get (accepted_tablets logs)) (get-id logs i b v e) ∙ e))

pub each-under : (logs : Logs) → is_valid logs ≡ true → Each (Under (accepted_tablets logs)) (accepted_tablets logs)
unfolding accepted_tablets headers_fit
each-under logs v = under-from [] (RootAt 0) logs.tablets Fits-none (valid-headers logs v) tt

pub get-under : (logs : Logs) (i : ℕ) (b : AcceptedTablet) → is_valid logs ≡ true → slice_get (accepted_tablets logs) i ≡ Some b
    → Under (accepted_tablets logs) b
get-under logs i b v e = each-get (Under (accepted_tablets logs)) (accepted_tablets logs) i b (each-under logs v) e

-- ---- closed tablets

pub closed-of : (logs : Logs) (places : List ℕ) (p : ℕ) (d : AcceptedTablet) → slice_get (accepted_tablets logs) p ≡ Some d
    → is_closed logs places p ≡ is_closed_in places d
unfolding is_closed
closed-of logs places p d e = ap (λ o. option_map_or (is_closed_in places) o false) e

pub none-closed : (logs : Logs) (places : List ℕ) (p : ℕ) → slice_get (accepted_tablets logs) p ≡ None → is_closed logs places p ≡ false
unfolding is_closed
none-closed logs places p e = ap (λ o. option_map_or (is_closed_in places) o false) e

pub each-root : (logs : Logs) → Each StartsRoot (accepted_tablets logs)
unfolding accepted_tablets
each-root logs = roots-from [] logs.tablets tt

pub each-numbered : (logs : Logs) → is_valid logs ≡ true → Numbered 0 (heads (accepted_tablets logs))
each-numbered logs v =
    subst (Numbered 0) (sym (heads-logs logs)) (headers_fit-all (headers_of logs.tablets) (valid-headers logs v)).1.numbered

-- those that hold a hash stand in a line, each under the one before
pub each-line : (logs : Logs) (hash : ℕ) → is_valid logs ≡ true → Line None (line hash (heads (accepted_tablets logs)))
each-line logs hash v = subst (λ w. Line None (line hash w)) (sym (heads-logs logs))
    ((headers_fit-all (headers_of logs.tablets) (valid-headers logs v)).1.lines hash)
