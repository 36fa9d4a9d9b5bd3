-- Records of a source tablet that has no key of the range do nothing.
use Rattle.std.proofs.Common.{◌≡◌, ℕ, true, cond, List, [], ◌∷◌, refl, ap, sym, ◌∙◌, arith, ⊎_elim}
use Rattle.std.specs.List.{list_all}
use Rattle.std.proofs.lemmas.Bool.{cases_Bool, true≢false, and_parts}
use Rattle.std.proofs.lemmas.List.Sums.{sum_by-cons}
use Rattle.xc_record.specs.declared.record.Header.{Header}
use Rattle.xc_record.specs.declared.record.Op.{Op}
use Rattle.xc_record.specs.Hash.{hash_of, holds}
use Rattle.xc_record.specs.Kept.{Kept}
use Rattle.xc_tablet.specs.declared.contents.Contents.{Contents}
use Rattle.xc_tablet.specs.Contents.{in_hashes, kept_in, IsContents, Changes, IsApart, all_held}
use Rattle.xc_tablet.specs.Room.{count_in}

pub count-apart : (h : Header) (lo hi : ℕ) (ops : List Op) → IsApart h lo hi → all_held h ops ≡ true → count_in lo hi ops ≡ 0
count-apart h lo hi [] a e = refl
count-apart h lo hi (op ∷ ops) a e =
    let f = and_parts (holds h (hash_of op.key)) (list_all (λ (o : Op). holds h (hash_of o.key)) ops) e in
    sum_by-cons (λ (o : Op). cond (in_hashes lo hi o.key) 1 0) op ops
    ∙ omega (arith, count-apart h lo hi ops a f.1, ap {B = ℕ} (λ b. cond b 1 0) (a op.key f.0))

pub changes-apart : (f : List ℕ → Kept → Kept) (h : Header) (c : Contents) → IsContents c → IsApart h c.lo c.hi
    → Changes (λ k x. cond (holds h (hash_of k)) (f k x) x) c c
changes-apart f h c is a = record {
  range = (refl, refl);
  keys = λ k i. ⊎_elim {C = kept_in c k ≡ cond (holds h (hash_of k)) (f k (kept_in c k)) (kept_in c k)}
      (λ t. absurd (true≢false (sym i ∙ a k t))) (λ o. ap (λ b. cond b (f k (kept_in c k)) (kept_in c k)) (sym o))
      (cases_Bool (holds h (hash_of k)));
  is = is;
}
