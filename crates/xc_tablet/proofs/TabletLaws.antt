-- What holds of a tablet for logs, by the laws of the model.
use Rattle.std.proofs.Common.{◌≡◌, ℕ, ◌+◌, ◌-◌, ◌≤◌, ◌<◌, true, false, List, length, take, drop, Option, Some, None, Result, Ok, Err, refl}
use Rattle.std.proofs.Common.{ap, sym, ◌∙◌, arith, subst}
use Rattle.std.specs.Prelude.{OnOk, IfOk, slice_get, slice_index}
use Rattle.std.specs.Option.{option_map_or}
use Rattle.std.proofs.lemmas.Bool.{true≢false}
use Rattle.std.proofs.lemmas.Option.{slice_get_within}
use Rattle.xc_record.specs.declared.record.Header.{Header}
use Rattle.xc_record.specs.declared.record.Logs.{Logs}
use Rattle.xc_record.specs.declared.record.Record.{Record}
use Rattle.xc_record.specs.Accepted.{accepted}
use Rattle.xc_record.specs.Valid.{is_valid, headers_of}
use Rattle.xc_model.specs.Floors.{Floors, starts, has_started}
use Rattle.xc_model.specs.Laws.{BatchTaken}
use Rattle.xc_model.specs.Stands.{TargetTablet, StandsFor, TakesBatch, new_tablet}
use Rattle.xc_model.proofs.Batches.{batches-move}
use Rattle.xc_model.proofs.DeliverLaw.{batches-keep}
use Rattle.xc_model.proofs.KeepLaws.{new-stands}

pub on_ok-map : {T E : Type 0} (P Q : Type 0) (r : Result T E) → (P → Q) → OnOk r P → OnOk r Q
on_ok-map P Q (Ok x) f h = f h
on_ok-map P Q (Err e) f h = h

pub started-within : (f : Floors) (id : ℕ) → has_started f id ≡ true → id < length f.headers
started-within f id e = go (slice_get f.headers id) refl e
  where
    go : (o : Option Header) → slice_get f.headers id ≡ o → option_map_or (starts f) o false ≡ true → id < length f.headers
    go None e h = absurd (true≢false (sym h))
    go (Some h) e _ = slice_get_within f.headers id h e

pub batch-moves : (id from : ℕ) (rs : List Record) (x y : TargetTablet) → 1 ≤ from → from ≤ slice_index x.places id + 1
    → has_started x.floors id ≡ true → length x.places ≡ length x.floors.headers → TakesBatch id from rs x y → BatchTaken id from rs x y
batch-moves id from rs x y first next started count takes =
    batches-move id from rs x y first next (let a = started-within x.floors id started in omega arith) takes

pub batch-stands : (id from : ℕ) (rs : List Record) (x y : TargetTablet) → 1 ≤ from → from ≤ slice_index x.places id + 1
    → has_started x.floors id ≡ true → TakesBatch id from rs x y
    → (logs : Logs) (u : ℕ) → StandsFor logs u x → rs ≡ take (length rs) (drop (from - 1) (accepted logs id)) → StandsFor logs u y
batch-stands id from rs x y first next started takes logs u stands accepted =
    batches-keep logs x y u id from rs stands started first next accepted takes

pub new-tablet_stands : (lo hi : ℕ) (headers : List Header) (x : TargetTablet) → x ≡ new_tablet lo hi headers → (logs : Logs)
    → is_valid logs ≡ true → headers_of logs.tablets ≡ headers → StandsFor logs 0 x
new-tablet_stands lo hi headers x e logs valid same =
    subst (StandsFor logs 0) (ap (new_tablet lo hi) same ∙ sym e) (new-stands logs lo hi valid)

pub if_ok-map : {T E : Type 0} (P Q : T → Type 0) (r : Result T E) → ((x : T) → P x → Q x) → IfOk r P → IfOk r Q
if_ok-map P Q (Ok x) f h = f x h
if_ok-map P Q (Err e) f h = h
