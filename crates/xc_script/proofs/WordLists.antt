-- Words in a list, one after the other.
use Rattle.std.proofs.Common.{◌≡◌, ℕ, suc, ◌+◌, ◌<◌, ◌≤◌, Bool, true, false, ◌&&◌, List, [], ◌∷◌, ◌++◌, length, map, drop, drop-cons}
use Rattle.std.proofs.Common.{get_or, Bor, Option, Some, None, option_map, refl, sym, subst, ap, ◌∙◌, append_assoc, arith}
use Rattle.std.specs.List.{list_all}
use Rattle.std.proofs.lemmas.Bool.{false≢true}
use Rattle.std.proofs.lemmas.List.Folds.{list_all-append}
use Rattle.xc_base.specs.Words.{number_of}
use Rattle.xc_script.specs.Words.{◌>>=◌, IsNumber, all_numbers, is_hash, key_fits, key_of, command_of}
use Rattle.xc_script.specs.declared.reading.Version.{Version}

abbrev pub texts : List (Bor (List ℕ)) → List (List ℕ)
texts words = map (λ word. word.now) words

-- ---- of a command

pub too_many : (verb : List ℕ) (words : List (Bor (List ℕ))) → 4 ≤ length words → command_of verb (texts words) ≡ None
unfolding command_of
too_many verb [] g = absurd (omega (arith, g))
too_many verb (a ∷ []) g = absurd (omega (arith, g))
too_many verb (a ∷ b ∷ []) g = absurd (omega (arith, g))
too_many verb (a ∷ b ∷ c ∷ []) g = absurd (omega (arith, g))
too_many verb (a ∷ b ∷ c ∷ e ∷ words) g = refl

-- ---- one word more

pub next_word : (words : List (Bor (List ℕ))) (i : ℕ) (d : Bor (List ℕ)) → i < length words
    → texts (drop i words) ≡ (get_or words i d).now ∷ texts (drop (i + 1) words)
next_word words i d h =
    let same : suc i ≡ i + 1 = omega arith in
    ap texts (drop-cons words i d h) ∙ ap (λ j. (get_or words i d).now ∷ texts (drop j words)) same

-- ---- bounds

-- the numbers of the words so far, which fit or don't; where all of them do, they are the bounds
pub record Seen (all rest : List (List ℕ)) (bounds : List ℕ) (fit : Bool) : Type 0 where
  pub numbers : List ℕ
  pub on : option_map (λ more. numbers ++ more) (all_numbers rest) ≡ all_numbers all
  pub fitting : list_all is_hash numbers ≡ fit
  pub same : fit ≡ true → bounds ≡ numbers

one_in_front : (numbers : List ℕ) (b : ℕ) (o : Option (List ℕ))
    → option_map (λ more. (numbers ++ b ∷ []) ++ more) o ≡ option_map (λ more. numbers ++ more) (o >>= (λ ns. Some (b ∷ ns)))
one_in_front numbers b None = refl
one_in_front numbers b (Some ns) = ap Some (append_assoc numbers (b ∷ []) ns)

and_true : (b : Bool) → b && true ≡ b
and_true true = refl
and_true false = refl

and_false : (b : Bool) → b && false ≡ false
and_false true = refl
and_false false = refl

all_with : (p : ℕ → Bool) (ns : List ℕ) (n : ℕ) → list_all p (ns ++ n ∷ []) ≡ list_all p ns && p n
all_with p ns n = list_all-append p ns (n ∷ []) ∙ ap (λ b. list_all p ns && b) (and_true (p n))

with_number : (all rest : List (List ℕ)) (word numbers : List ℕ) (n : ℕ) → number_of word ≡ Some n
    → option_map (λ more. numbers ++ more) (all_numbers (word ∷ rest)) ≡ all_numbers all
    → option_map (λ more. (numbers ++ n ∷ []) ++ more) (all_numbers rest) ≡ all_numbers all
with_number all rest word numbers n is on =
    one_in_front numbers n (all_numbers rest)
    ∙ ap (λ o. option_map (λ more. numbers ++ more) (o >>= (λ n. all_numbers rest >>= (λ ns. Some (n ∷ ns))))) (sym is)
    ∙ on

seen_fit : (all rest : List (List ℕ)) (word : List ℕ) (b : ℕ) (bounds : List ℕ) (fit : Bool) → IsNumber is_hash word (Some b)
    → Seen all (word ∷ rest) bounds fit → Seen all rest (bounds ++ b ∷ []) fit
seen_fit all rest word b bounds fit is s = record {
  numbers = s.numbers ++ b ∷ [];
  on = with_number all rest word s.numbers b is.0 s.on;
  fitting = all_with is_hash s.numbers b ∙ ap (λ c. list_all is_hash s.numbers && c) is.1 ∙ and_true (list_all is_hash s.numbers)
      ∙ s.fitting;
  same = λ h. ap (λ ns. ns ++ b ∷ []) (s.same h);
}

seen_unfit : (all rest : List (List ℕ)) (word : List ℕ) (bounds : List ℕ) (fit : Bool) → IsNumber is_hash word None
    → Seen all (word ∷ rest) bounds fit → Seen all rest bounds false
seen_unfit all rest word bounds fit is s = record {
  numbers = s.numbers ++ is.0 ∷ [];
  on = with_number all rest word s.numbers is.0 is.1.0 s.on;
  fitting = all_with is_hash s.numbers is.0 ∙ ap (λ c. list_all is_hash s.numbers && c) is.1.1 ∙ and_false (list_all is_hash s.numbers);
  same = λ h. absurd (false≢true h);
}

pub hash_read : (words : List (Bor (List ℕ))) (i : ℕ) (d : Bor (List ℕ)) (b : ℕ) (bounds : List ℕ) (fit : Bool) → i < length words
    → IsNumber is_hash (get_or words i d).now (Some b) → Seen (texts words) (texts (drop i words)) bounds fit
    → Seen (texts words) (texts (drop (i + 1) words)) (bounds ++ b ∷ []) fit
hash_read words i d b bounds fit h is s =
    seen_fit _ _ _ b bounds fit is (subst (λ rest. Seen (texts words) rest bounds fit) (next_word words i d h) s)

pub hash_refused : (words : List (Bor (List ℕ))) (i : ℕ) (d : Bor (List ℕ)) (bounds : List ℕ) (fit : Bool) → i < length words
    → IsNumber is_hash (get_or words i d).now None → Seen (texts words) (texts (drop i words)) bounds fit
    → Seen (texts words) (texts (drop (i + 1) words)) bounds false
hash_refused words i d bounds fit h is s =
    seen_unfit _ _ _ bounds fit is (subst (λ rest. Seen (texts words) rest bounds fit) (next_word words i d h) s)

-- ---- watched keys

-- the keys so far with those that are left are all of them, and all words fit where those that are left do
pub record Named (version : Version) (all rest keys : List (List ℕ)) : Type 0 where
  pub on : keys ++ map (key_of version) rest ≡ map (key_of version) all
  pub fits : list_all (key_fits version) rest ≡ list_all (key_fits version) all
