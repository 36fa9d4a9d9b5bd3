-- An operation that lies in bytes is read back, and bytes behind it change nothing.
use Rattle.std.proofs.Common.{◌≡◌, ℕ, ◌+◌, ◌<◌, ◌≤◌, ◌==◌, true, false, List, [], ◌++◌, length, get_or, take, drop, min, ◌-◌, nat_lt}
use Rattle.std.proofs.Common.{⊎_elim, refl, sym, ap, subst, ◌∙◌}
use Rattle.std.proofs.Common.{arith, append_assoc, append-nil, length-append}
use Rattle.std.proofs.Math.Seq.{drop-append_seam}
use Rattle.std.proofs.lemmas.Bool.Decides.{nat_tests}
use Rattle.std.proofs.lemmas.Bool.{cases_Bool, ltb-true, ltb-false}
use Rattle.std.proofs.lemmas.List.{drop_all, take_all, length-drop, nil_from_length}
use Rattle.xc_record.specs.Path.{Written}
use Rattle.xc_record.specs.declared.record.Op.{Op}
use Rattle.xc_record.specs.Packed.{encode_op, is_op, text_of, after_text, value_of, IsAt}
use Rattle.xc_record.proofs.PackedLaws.{front, front-is_at}
use Rattle.xc_arena.specs.Arena.{key_at, value_at, op_at, Lies}

-- ---- an operation at a place

there : (bytes : List ℕ) (at : ℕ) (l : Lies bytes at) → drop at bytes ≡ encode_op l.op ++ l.behind
there bytes at l =
    ap (drop at) l.is ∙ ap (λ n. drop n (l.before ++ (encode_op l.op ++ l.behind))) (sym l.place)
    ∙ drop-append_seam l.before (encode_op l.op ++ l.behind)

pub lies-is_at : (bytes : List ℕ) (at : ℕ) → Lies bytes at → IsAt (drop at bytes)
lies-is_at bytes at l = subst IsAt (sym (there bytes at l)) (front-is_at l.op l.behind l.well)

pub lies-within : (bytes : List ℕ) (at : ℕ) → Lies bytes at → at ≤ length bytes
lies-within bytes at l =
    let whole = ap length l.is in
    let parts = length-append l.before (encode_op l.op ++ l.behind) in
    let place = l.place in
    omega arith

pub lies-key : (bytes : List ℕ) (at : ℕ) (l : Lies bytes at) → key_at bytes at ≡ l.op.key
unfolding key_at
lies-key bytes at l = ap text_of (there bytes at l) ∙ (front l.op l.behind l.well).key

pub lies-value : (bytes : List ℕ) (at : ℕ) (l : Lies bytes at) → value_at bytes at ≡ l.op.value
unfolding value_at
lies-value bytes at l = ap (λ b. value_of (after_text b)) (there bytes at l) ∙ (front l.op l.behind l.well).value

abbrev op_with : List ℕ → Written → Op
op_with k v = record { key = k; value = v }

pub lies-op : (bytes : List ℕ) (at : ℕ) (l : Lies bytes at) → op_at bytes at ≡ l.op
lies-op bytes at l = ap (λ k. op_with k (value_at bytes at)) (lies-key bytes at l) ∙ ap (op_with l.op.key) (lies-value bytes at l)

-- ---- more bytes behind

pub lies-more : (bytes more : List ℕ) (at : ℕ) → Lies bytes at → Lies (bytes ++ more) at
lies-more bytes more at l = record {
  before = l.before;
  op = l.op;
  behind = l.behind ++ more;
  is = ap (λ w. w ++ more) l.is ∙ append_assoc l.before (encode_op l.op ++ l.behind) more
      ∙ ap (λ w. l.before ++ w) (append_assoc (encode_op l.op) l.behind more);
  place = l.place;
  well = l.well;
}

pub op_at-more : (bytes more : List ℕ) (at : ℕ) → Lies bytes at → op_at (bytes ++ more) at ≡ op_at bytes at
unfolding lies-more
op_at-more bytes more at l = lies-op (bytes ++ more) at (lies-more bytes more at l) ∙ sym (lies-op bytes at l)

pub key_at-more : (bytes more : List ℕ) (at : ℕ) → Lies bytes at → key_at (bytes ++ more) at ≡ key_at bytes at
key_at-more bytes more at l = ap (λ (o : Op). o.key) (op_at-more bytes more at l)

pub value_at-more : (bytes more : List ℕ) (at : ℕ) → Lies bytes at → value_at (bytes ++ more) at ≡ value_at bytes at
value_at-more bytes more at l = ap (λ (o : Op). o.value) (op_at-more bytes more at l)

-- the operation that was put last
pub lies-last : (bytes : List ℕ) (op : Op) → is_op op ≡ true → Lies (bytes ++ encode_op op) (length bytes)
lies-last bytes op w = record {
  before = bytes;
  op = op;
  behind = [];
  is = ap (λ w. bytes ++ w) (sym (append-nil (encode_op op)));
  place = refl;
  well = w;
}

pub op_at-last : (bytes : List ℕ) (op : Op) → is_op op ≡ true → op_at (bytes ++ encode_op op) (length bytes) ≡ op
unfolding lies-last
op_at-last bytes op w = lies-op (bytes ++ encode_op op) (length bytes) (lies-last bytes op w)

pub last-key : (bytes : List ℕ) (op : Op) → is_op op ≡ true → key_at (bytes ++ encode_op op) (length bytes) ≡ op.key
last-key bytes op w = ap (λ (o : Op). o.key) (op_at-last bytes op w)

pub last-value : (bytes : List ℕ) (op : Op) → is_op op ≡ true → value_at (bytes ++ encode_op op) (length bytes) ≡ op.value
last-value bytes op w = ap (λ (o : Op). o.value) (op_at-last bytes op w)

pub put-lies : (bytes new : List ℕ) (op : Op) → is_op op ≡ true → new ≡ bytes ++ encode_op op → Lies new (length bytes)
put-lies bytes new op w e = subst (λ (b : List ℕ). Lies b (length bytes)) (sym e) (lies-last bytes op w)

pub put-op : (bytes new : List ℕ) (op : Op) → is_op op ≡ true → new ≡ bytes ++ encode_op op → op_at new (length bytes) ≡ op
put-op bytes new op w e = ap (λ b. op_at b (length bytes)) e ∙ op_at-last bytes op w

-- what lies in bytes is well-formed
pub lies-well : (bytes : List ℕ) (at : ℕ) → Lies bytes at → is_op (op_at bytes at) ≡ true
lies-well bytes at l = ap is_op (lies-op bytes at l) ∙ l.well

-- ---- a place behind the last byte

-- a function of lists that gives the same behind the last byte
clip : (f : ℕ → List ℕ) (long n m : ℕ) → m ≡ min long n → ((k : ℕ) → long ≤ k → f k ≡ f long) → f m ≡ f n
clip f long n m e h =
    ⊎_elim {C = f m ≡ f n}
    (λ t. let l = ltb-true n long t in let same : m ≡ n = omega arith in ap f same)
    (λ b. let l = ltb-false n long b in let last : m ≡ long = omega arith in ap f last ∙ sym (h n (omega arith)))
    (cases_Bool (nat_lt n long))

drop-clip : (xs : List ℕ) (n m : ℕ) → m ≡ min (length xs) n → drop m xs ≡ drop n xs
drop-clip xs n m e =
    clip (λ k. drop k xs) (length xs) n m e (λ k h. drop_all k xs h ∙ sym (drop_all (length xs) xs (omega arith)))

take-clip : (xs : List ℕ) (n m : ℕ) → m ≡ min (length xs) n → take m xs ≡ take n xs
take-clip xs n m e =
    clip (λ k. take k xs) (length xs) n m e (λ k h. take_all k xs h ∙ sym (take_all (length xs) xs (omega arith)))

-- the bytes from the place on, as the code cuts them out
pub rest-from : (bytes : List ℕ) (at from : ℕ) → from ≡ min (length bytes) at → take (length bytes - from) (drop from bytes) ≡ drop at bytes
rest-from bytes at from e =
    let long = length-drop from bytes in take_all (length bytes - from) (drop from bytes) (omega arith) ∙ drop-clip bytes at from e

pub key_at-none : (bytes : List ℕ) (at : ℕ) (rest : List ℕ) → rest ≡ drop at bytes → true ≡ (length rest == 0) → rest ≡ key_at bytes at
unfolding key_at
key_at-none bytes at rest e t =
    let empty : length rest ≡ 0 = grind (arith, nat_tests) in
    let none = nil_from_length rest empty in
    none ∙ ap text_of (sym none) ∙ ap text_of e

pub key_at-some : (bytes : List ℕ) (at last : ℕ) (rest : List ℕ) → rest ≡ drop at bytes → false ≡ (length rest == 0)
    → last ≡ min (length rest) (1 + get_or rest 0 0) → take (last - 1) (drop 1 rest) ≡ key_at bytes at
unfolding key_at
key_at-some bytes at last rest e t l =
    let some : 0 < length rest = grind (arith, nat_tests) in
    let long = length-drop 1 rest in
    take-clip (drop 1 rest) (get_or rest 0 0) (last - 1) (omega arith) ∙ ap text_of e
