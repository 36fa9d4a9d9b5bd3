-- In the logs of a source no record breaks the order rules, and each tablet is reached.
use Rattle.std.proofs.Common.{◌≡◌, ℕ, ◌+◌, true, false, Bool, List, [], ◌∷◌, ◌++◌, Option, Some, None}
use Rattle.std.proofs.Common.{refl, ap, sym, ◌∙◌}
use Rattle.std.specs.Prelude.{slice_get, if◌then◌else◌, is_none, option_map, option_and_then}
use Rattle.std.specs.Option.{option_map_or}
use Rattle.std.proofs.lemmas.Option.{slice_get-map}
use Rattle.xc_record.specs.declared.record.Record.{Record}
use Rattle.xc_record.specs.declared.record.Break.{Break}
use Rattle.xc_record.specs.declared.record.Tablet.{Tablet}
use Rattle.xc_record.specs.Order.{Progress, after, break_of, accepted_from}
use Rattle.xc_record.specs.Accepted.{AcceptedTablet, accepted_tablets, accepted, records, halt, halt_from, halt_of}
use Rattle.xc_record.proofs.ListLaws.{Each}
use Rattle.xc_model.proofs.Parents.{each-get}
use Rattle.xc_source.specs.Machine.{Machine, start, logs_of}
use Rattle.xc_source.specs.Commands.{run}
use Rattle.xc_source_laws.specs.Laws.{NothingBreaks}
use Rattle.xc_source_laws.proofs.Grow.{tablet_of, Stays, stays-after}
use Rattle.xc_source_laws.proofs.Base.{IsMachine}
use Rattle.xc_source_laws.proofs.Steps.{unit-closed, run-keeps}
use Rattle.xc_source_laws.proofs.Start.{root_books, base-start}

-- the books are the accepted tablets
pub books-accepted : (m : Machine) (bs : List AcceptedTablet) → IsMachine m bs → accepted_tablets (logs_of m) ≡ bs
unfolding accepted_tablets
books-accepted m bs k = ap (λ ts. accepted_tablets (record { tablets = ts })) k.shape ∙ stays-after [] bs k.books.stays

-- what stays is whole, whatever stands before
abbrev IsWholeThere : AcceptedTablet → Type 0
IsWholeThere b = accepted_from b.start b.records ≡ b.records

each-whole : (before bs : List AcceptedTablet) → Stays before bs → Each IsWholeThere bs
each-whole before [] s = tt
each-whole before (b ∷ bs) s = (s.0.in_order, each-whole (before ++ b ∷ []) bs s.1)

no-halt : (p : Progress) (n : ℕ) (rs : List Record) → accepted_from p rs ≡ rs → halt_from p n rs ≡ None
no-halt p n [] e = refl
no-halt p n (r ∷ rs) e = go (break_of p r) refl (λ q. no-halt (after p r) (n + 1) rs q) e
  where
    go : (o : Option Break) → break_of p r ≡ o → (accepted_from (after p r) rs ≡ rs → halt_from (after p r) (n + 1) rs ≡ None)
        → (if is_none o then (r ∷ accepted_from (after p r) rs) else []) ≡ r ∷ rs
        → option_map_or (λ kind. Some (n, kind)) o (halt_from (after p r) (n + 1) rs) ≡ None
    go None q more w = let rest : accepted_from (after p r) rs ≡ rs = cc in more rest
    go (Some kind) q more w = cc

halt-none : (b : AcceptedTablet) → IsWholeThere b → halt_of b b.records ≡ None
halt-none b w = go b.reached
  where
    go : (c : Bool) → (if c then halt_from b.start 1 b.records else None) ≡ None
    go true = no-halt b.start 1 b.records w
    go false = refl

records-of : (m : Machine) (bs : List AcceptedTablet) (s : ℕ) → IsMachine m bs
    → records (logs_of m) s ≡ option_map_or (λ (b : AcceptedTablet). b.records) (slice_get bs s) []
records-of m bs s k =
    ap (λ ts. option_map_or (λ (t : Tablet). t.records) (slice_get ts s) []) k.shape
    ∙ ap (λ o. option_map_or (λ (t : Tablet). t.records) o []) (slice_get-map tablet_of bs s) ∙ by (slice_get bs s)
  where
    by : (o : Option AcceptedTablet) → option_map_or (λ (t : Tablet). t.records) (option_map tablet_of o) [] ≡ option_map_or
        (λ (b : AcceptedTablet). b.records) o []
    by None = refl
    by (Some b) = refl

nothing-breaks-in : (m : Machine) (bs : List AcceptedTablet) (s : ℕ) → IsMachine m bs
    → (halt (logs_of m) s ≡ None) × (accepted (logs_of m) s ≡ records (logs_of m) s)
unfolding halt
nothing-breaks-in m bs s k =
    let all = books-accepted m bs k in
    (rw all (go (slice_get bs s) refl), rw all (sym (records-of m bs s k)))
  where
    go : (o : Option AcceptedTablet) → slice_get bs s ≡ o → option_and_then (λ b. halt_of b (records (logs_of m) s)) o ≡ None
    go None e = refl
    go (Some b) e =
        let same : records (logs_of m) s ≡ b.records = records-of m bs s k
        ∙ ap (λ o. option_map_or (λ (b : AcceptedTablet). b.records) o []) e in
        ap (halt_of b) same ∙ halt-none b (each-get IsWholeThere bs s b (each-whole [] bs k.books.stays) e)

pub nothing-breaks : NothingBreaks
nothing-breaks roots time commands r l f s =
    let k = run-keeps (λ _ _. Unit {0}) unit-closed commands (start roots time) f
    (record { books = root_books roots; base = base-start roots time r; holds_of = tt }) in
    nothing-breaks-in (run commands (start roots time)) k.books s k.base
