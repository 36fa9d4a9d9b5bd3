-- Plain bytes at the front of others.
use Rattle.std.proofs.Common.{◌≡◌, ℕ, ◌+◌, ◌*◌, ◌%◌, ◌<◌, true, List, [], ◌∷◌, ◌++◌, length, take, get_or}
use Rattle.std.proofs.Common.{refl, sym, ◌∙◌}
use Rattle.std.proofs.lemmas.List.{take_more}
use Rattle.std.proofs.lemmas.List.Folds.{list_all-append}
use Rattle.xc_base.specs.Names.{is_plain, in_alphabet}
use Rattle.xc_record.specs.Hash.{hash_from}

-- the first len bytes are plain, and this is their hash
pub record IsFront (len hash : ℕ) (bytes : List ℕ) : Type 0 where
  pub plain : is_plain (take len bytes) ≡ true
  pub hashed : hash ≡ hash_from 0 (take len bytes)

plain_with : (xs : List ℕ) (c : ℕ) → is_plain xs ≡ true → in_alphabet c ≡ true → is_plain (xs ++ c ∷ []) ≡ true
plain_with xs c h k = list_all-append in_alphabet xs (c ∷ []) ∙ rw (h, k) refl

hash_one_more : (h : ℕ) (xs : List ℕ) (c : ℕ) → hash_from h (xs ++ c ∷ []) ≡ (31 * hash_from h xs + c) % 65536
hash_one_more h [] c = refl
hash_one_more h (x ∷ xs) c = hash_one_more ((31 * h + x) % 65536) xs c

pub front_none : (bytes : List ℕ) → IsFront 0 0 bytes
front_none bytes = record { plain = refl; hashed = refl }

pub front_more : (len hash c : ℕ) (bytes : List ℕ) → IsFront len hash bytes → len < length bytes → c ≡ get_or bytes len 0
    → in_alphabet c ≡ true → IsFront (len + 1) ((31 * hash + c) % 65536) bytes
front_more len hash c bytes h l e k =
    let more = take_more bytes len 0 l in
    record {
      plain = rw (more, sym e) (plain_with (take len bytes) c h.plain k);
      hashed = rw (more, sym e, hash_one_more 0 (take len bytes) c, h.hashed) refl;
    }
