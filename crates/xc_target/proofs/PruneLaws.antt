-- What a prune of the retention makes of a target and of the session that it stands for.
use Rattle.std.proofs.Common.{◌≡◌, ℕ, ◌<◌, ◌≤◌, List, [], ◌∷◌, max, None, Result, Ok, Err, refl, sym, ◌∙◌, subst}
use Rattle.std.specs.List.{AllZip}
use Rattle.xc_record.specs.declared.record.Logs.{Logs}
use Rattle.xc_record.specs.Session.{Session, safe_now, IsSession}
use Rattle.xc_model.specs.Stands.{TargetTablet, KeepsFrom}
use Rattle.xc_tablet.proofs.Zips.{zip-map}
use Rattle.xc_retain.specs.Retention.{IsPruned as IsKept}
use Rattle.xc_retain.specs.declared.retention.Ahead.{Ahead}
use Rattle.xc_target.specs.Target.{TargetState}
use Rattle.xc_target.specs.Stands.{StandsForSession}
use Rattle.xc_target.specs.Answers.{Made, IsPruned}
use Rattle.xc_target.specs.declared.answers.PruneFail.TheVariants as prune
use Rattle.xc_target.proofs.MoveLaws.{Thins, keeps-thins, stays-open, is-pruned}

all-same : (xs : List TargetTablet) → AllZip Thins xs xs
all-same [] = tt
all-same (x ∷ xs) = ((x.versions, (x.held, refl)), all-same xs)

-- whether it was pruned or not
pub thinned : (u safe old new : ℕ) (xs ys : List TargetTablet) (r : Result ℕ Ahead) → IsKept u safe old new xs ys r → AllZip Thins xs ys
thinned u safe old new xs ys (Ok cutoff) p = zip-map (KeepsFrom (max old u)) Thins (keeps-thins (max old u)) xs ys p.1.1.1
thinned u safe old new xs ys (Err e) p = subst (AllZip Thins xs) (sym p.1.1.1) (all-same xs)

pub same-thins : (x y : TargetTablet) → Thins x y → Thins x y
same-thins x y t = t

module _ (logs : Logs) (m : Session) (t : TargetState) (is : IsSession logs m) (st : StandsForSession logs m t)
    (open_ : t.closed ≡ None) (u safe new : ℕ) (ys : List TargetTablet) (now : safe ≡ safe_now logs m) where
  -- the target with these tablets and this cutoff
  abbrev after : TargetState
  after = record { tablets = ys; pollers = t.pollers; cutoff = new; closed = t.closed }

  pub pruned-at : (cutoff : ℕ) → IsKept u safe t.cutoff new t.tablets ys (Ok cutoff) → IsPruned logs m u after (Ok cutoff)
  pruned-at cutoff p =
      let low : u ≤ safe_now logs m = subst (λ n. u ≤ n) now p.0 in
      let q = is-pruned logs m t is st open_ u new ys low p.1.1.0
      (subst (λ w. AllZip (KeepsFrom w) t.tablets ys) (sym p.1.1.0) p.1.1.1) in
      (low, (p.1.0 ∙ sym p.1.1.0 ∙ q.0, q.1))

  pub refused-as : (e : Ahead) → IsKept u safe t.cutoff new t.tablets ys (Err e) → IsPruned logs m u after (Err (prune.Ahead e.safe))
  refused-as e p = (
    p.1.0 ∙ now,
    (
      subst (λ n. n < u) (sym p.1.0) p.0,
      subst (λ xs. Made logs m m (record { tablets = xs; pollers = t.pollers; cutoff = new; closed = t.closed })) (sym p.1.1.1)
          (subst (λ w. Made logs m m (record { tablets = t.tablets; pollers = t.pollers; cutoff = w; closed = t.closed })) (sym p.1.1.0)
          (stays-open logs m t is st open_)),
    ),
  )
