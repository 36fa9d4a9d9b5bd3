-- The words of a source script are read as its lines.
use Rattle.std.proofs.Common.{◌≡◌, ℕ, ◌+◌, ◌^◌, ◌<◌, ◌≤◌, ◌==◌, true, ◌&&◌, nat_le, nat_lt, List, [], ◌∷◌, ◌++◌, length}
use Rattle.std.proofs.Common.{Option, Some, None, option_map, refl, sym, ap, ◌∙◌, codes, decimal, arith}
use Rattle.std.specs.Prelude.{if◌then◌else◌}
use Rattle.std.specs.List.{list_all}
use Rattle.std.specs.Option.{option_map_or}
use Rattle.std.proofs.lemmas.Bool.{false≢true, and_parts, and_from}
use Rattle.std.proofs.lemmas.Bool.Decides.{nat_tests}
use Rattle.xc_record.specs.Headers.{fit_from, next_after, parent_fits}
use Rattle.xc_record.specs.Valid.{is_txn}
use Rattle.xc_record.specs.declared.record.Header.{Header}
use Rattle.xc_record.specs.declared.record.Op.{Op}
use Rattle.xc_record.specs.declared.headers.Next.TheVariants.{RootAt}
use Rattle.xc_script.proofs.AllowedLaws.{none_is}
use Rattle.xc_script.proofs.SpelledWords.{above, decimal_is, is_lt}
use Rattle.xc_base.specs.Words.{number_of}
use Rattle.xc_script.specs.Words.{is_word, is_tablet, is_hash, is_moment}
use Rattle.xc_source.specs.declared.command.SourceCommand.{SourceCommand}
use Rattle.xc_source.specs.declared.command.SourceCommand.TheVariants as command
use Rattle.xc_text.proofs.PrintedWords.{op_is, op_plain}
use Rattle.xc_text.specs.Lines.{op_of, op_is_named, header_numbers_fit}
use Rattle.xc_text.specs.Printed.{op_by, op_word, op_spelled}
use Rattle.xc_text.specs.declared.line.Version.{Version}
use Rattle.xc_text.specs.declared.line.Version.TheVariants.{One, Two}
use Rattle.xc_source_script.specs.Words.{Root, Ask, is_sub, command_of, pair_of, line_in}
use Rattle.xc_source_script.specs.Words.{line_of, root_of}
use Rattle.xc_source_script.specs.SourceText.{follows, is_root}
use Rattle.xc_source_script.specs.Allowed.{is_allowed}
use Rattle.xc_source_script.specs.Spelled.{command_words, command_spelled, root_words}
use Rattle.xc_source_script.proofs.AllowedLaws.{IsNext}

-- ---- numbers within their ranges

tablet_small : (n : ℕ) → is_tablet n ≡ true → n < 2 ^ 64
tablet_small n h = grind (arith, nat_tests)

hash_small : (n : ℕ) → is_hash n ≡ true → n < 2 ^ 64
hash_small n h = grind (arith, nat_tests)

pub moment_small : (n : ℕ) → is_moment n ≡ true → n < 2 ^ 64
moment_small n h = grind (arith, nat_tests)

txn_small : (n : ℕ) → is_txn n ≡ true → n < 2 ^ 64
txn_small n h = let p = and_parts (nat_le 1 n) (nat_lt n (2 ^ 32)) h in grind (arith, nat_tests)

sub_small : (n : ℕ) → is_sub n ≡ true → n < 2 ^ 64
sub_small n h = let p = and_parts (nat_le 1 n) (nat_le n 64) h in grind (arith, nat_tests)

-- ---- operations

by_word : (key : List ℕ) (value : Option (List ℕ)) → is_word (op_by key value) ≡ true
by_word key None = refl
by_word key (Some value) = refl

record IsOpWord (v : Version) (op : Op) : Type 0 where
  word : is_word (op_word v op) ≡ true
  above : above (op_word v op) ≡ true
  read : op_of v (op_word v op) ≡ Some op

op_word_is : (v : Version) (op : Op) → op_is_named op ≡ true → op_spelled v op ≡ true → IsOpWord v op
op_word_is v op named spelled = record {
  word = by_word _ _;
  above = op_plain v op named spelled;
  read = op_is v op named spelled;
}

-- ---- commands

pub record IsSaid (v : Version) (c : SourceCommand) : Type 0 where
  pub above : list_all above (command_words v c) ≡ true
  pub line : line_of v (command_words v c) ≡ Some (Ask c)

-- a command of one number
said_one : (v : Version) (verb : List ℕ) (c : ℕ → SourceCommand) (n : ℕ) → n < 2 ^ 64 → command_words v (c n) ≡ verb ∷ decimal n ∷ []
    → above verb ≡ true → is_word verb ≡ true
    → ((word : List ℕ) → line_in v (verb ∷ word ∷ []) ≡ option_map Ask (option_map c (number_of word))) → IsSaid v (c n)
unfolding line_of
said_one v verb c n small words clear word line =
    let a = decimal_is n small in
    record {
      above = ap (list_all above) words ∙ and_from _ _ clear (and_from _ _ a.above refl);
      line = ap (line_of v) words
          ∙ ap (λ b. if b then line_in v (verb ∷ decimal n ∷ []) else None) (and_from _ _ word (and_from _ _ a.word refl))
          ∙ line (decimal n) ∙ ap (λ o. option_map Ask (option_map c o)) a.number;
    }

-- a command of two numbers
said_two : (v : Version) (verb : List ℕ) (c : ℕ → ℕ → SourceCommand) (m n : ℕ) → m < 2 ^ 64 → n < 2 ^ 64
    → command_words v (c m n) ≡ verb ∷ decimal m ∷ decimal n ∷ [] → above verb ≡ true → is_word verb ≡ true
    → ((word other : List ℕ) → line_in v (verb ∷ word ∷ other ∷ []) ≡ option_map Ask (pair_of c word other)) → IsSaid v (c m n)
unfolding line_of
said_two v verb c m n low high words clear word line =
    let a = decimal_is m low in
    let b = decimal_is n high in
    let pair : pair_of c (decimal m) (decimal n) ≡ Some (c m n) = rw (a.number, b.number) refl in
    record {
      above = ap (list_all above) words ∙ and_from _ _ clear (and_from _ _ a.above (and_from _ _ b.above refl));
      line = ap (line_of v) words
          ∙ ap (λ b. if b then line_in v (verb ∷ decimal m ∷ decimal n ∷ []) else None)
          (and_from _ _ word (and_from _ _ a.word (and_from _ _ b.word refl)))
          ∙ line (decimal m) (decimal n) ∙ ap (option_map Ask) pair;
    }

pub command_said : (v : Version) (c : SourceCommand) → is_allowed c ≡ true → command_spelled v c ≡ true → IsSaid v c
unfolding line_of command_of
command_said v command.Begin is spelled = record { above = refl; line = refl }
command_said v command.Finish is spelled = record { above = refl; line = refl }
command_said v (command.Write txn op) is spelled =
    let p = and_parts (is_txn txn) (op_is_named op) is in
    let a = decimal_is txn (txn_small txn p.0) in
    let o = op_word_is v op p.1 spelled in
    record { above = rw (a.above, o.above) refl; line = rw (a.word, o.word, a.number, o.read) refl }
command_said v (command.Put op) is spelled =
    let o = op_word_is v op is spelled in record { above = rw o.above refl; line = rw (o.word, o.read) refl }
command_said v (command.Commit txn) is spelled =
    said_one v (codes "commit") command.Commit txn (txn_small txn (and_parts (is_txn txn) true is).0) refl refl refl (λ word. refl)
command_said v (command.Abort txn) is spelled =
    said_one v (codes "abort") command.Abort txn (txn_small txn (and_parts (is_txn txn) true is).0) refl refl refl (λ word. refl)
command_said v (command.Apply txn id) is spelled =
    let p = and_parts (is_txn txn) (is_tablet id) (and_parts (is_txn txn && is_tablet id) true is).0 in
    said_two v (codes "apply") command.Apply txn id (txn_small txn p.0) (tablet_small id p.1) refl refl refl (λ word other. refl)
command_said v (command.Safe id) is spelled =
    said_one v (codes "safe") command.Safe id (tablet_small id (and_parts (is_tablet id) true is).0) refl refl refl (λ word. refl)
command_said v (command.Split id place) is spelled =
    let p = and_parts (is_tablet id) (is_hash place) (and_parts (is_tablet id && is_hash place) true is).0 in
    said_two v (codes "split") command.Split id place (tablet_small id p.0) (hash_small place p.1) refl refl refl (λ word other. refl)
command_said v (command.Tick time) is spelled =
    said_one v (codes "tick") command.Tick time (moment_small time (and_parts (is_moment time) true is).0) refl refl refl (λ word. refl)
command_said One (command.Savepoint txn) is spelled = absurd (false≢true spelled)
command_said Two (command.Savepoint txn) is spelled =
    said_one Two (codes "savepoint") command.Savepoint txn (txn_small txn (and_parts (is_txn txn) true is).0) refl refl refl (λ word. refl)
command_said One (command.Rollback txn sub) is spelled = absurd (false≢true spelled)
command_said Two (command.Rollback txn sub) is spelled =
    let p = and_parts (is_txn txn) (is_sub sub) (and_parts (is_txn txn && is_sub sub) true is).0 in
    said_two Two (codes "rollback") command.Rollback txn sub (txn_small txn p.0) (sub_small sub p.1) refl refl refl (λ word other. refl)

-- ---- roots

-- a root that stands first, and those behind it
pub record IsFirst (before : List Header) (covered : ℕ) (h : Header) (hs : List Header) : Type 0 where
  pub next : IsNext before covered h
  pub rest : fit_from (before ++ h ∷ []) (RootAt (h.hi + 1)) hs ≡ true

-- a root fits by its number and its range
without_parent : (before : List Header) (covered : ℕ) (h : Header) (hs : List Header) (o : Option ℕ) → o ≡ None
    → (h.id == length before && (nat_le h.lo h.hi && parent_fits before (RootAt covered) h o))
    && fit_from (before ++ h ∷ []) (next_after before (RootAt covered) h o) hs ≡ true
    → (h.id == length before && (nat_le h.lo h.hi && h.lo == covered)) && fit_from (before ++ h ∷ []) (RootAt (h.hi + 1)) hs ≡ true
without_parent before covered h hs None is fit = fit
without_parent before covered h hs (Some id) is fit = cc

pub first_is : (before : List Header) (covered : ℕ) (h : Header) (hs : List Header) → is_root h ≡ true
    → fit_from before (RootAt covered) (h ∷ hs) ≡ true → IsFirst before covered h hs
first_is before covered h hs root fit =
    let none = none_is h.parent root in
    let all = without_parent before covered h hs h.parent none fit in
    let p = and_parts (h.id == length before && (nat_le h.lo h.hi && h.lo == covered)) (fit_from (before ++ h ∷ [])
    (RootAt (h.hi + 1)) hs) all in
    let q = and_parts (h.id == length before) (nat_le h.lo h.hi && h.lo == covered) p.0 in
    let r = and_parts (nat_le h.lo h.hi) (h.lo == covered) q.1 in
    record { next = record { parent = none; id = q.0; range = r.0; lo = r.1 }; rest = p.1 }

pub follows_is : (before : List Header) (covered : ℕ) (h : Header) → IsNext before covered h → follows before covered h ≡ true
follows_is before covered h is = rw (is.parent, is.id, is.range, is.lo) refl

covered_whole : (n : ℕ) → n == 65536 ≡ true → n ≤ 65536
covered_whole n h = grind (arith, nat_tests)

covered_before : (lo hi covered : ℕ) → nat_le lo hi ≡ true → lo == covered ≡ true → hi + 1 ≤ 65536 → covered ≤ 65536
covered_before lo hi covered range is h = grind (arith, nat_tests)

-- hashes are shared out up to 65536 at most
pub within_hashes : (before : List Header) (covered : ℕ) (hs : List Header) → list_all is_root hs ≡ true
    → fit_from before (RootAt covered) hs ≡ true → covered ≤ 65536
within_hashes before covered [] roots fit = covered_whole covered fit
within_hashes before covered (h ∷ hs) roots fit =
    let p = and_parts (is_root h) (list_all is_root hs) roots in
    let is = first_is before covered h hs p.0 fit in
    covered_before h.lo h.hi covered is.next.range is.next.lo (within_hashes (before ++ h ∷ []) (h.hi + 1) hs p.1 is.rest)

id_small : (id before : ℕ) → id == before ≡ true → before + 1 ≤ 64 → nat_lt id 64 ≡ true
id_small id before e h = grind (arith, nat_tests)

lo_small : (lo hi : ℕ) → nat_le lo hi ≡ true → hi + 1 ≤ 65536 → nat_lt lo 65536 ≡ true
lo_small lo hi range h = grind (arith, nat_tests)

pub root_numbers : (before : List Header) (covered : ℕ) (h : Header) → IsNext before covered h → length before + 1 ≤ 64 → h.hi + 1 ≤ 65536
    → header_numbers_fit h ≡ true
root_numbers before covered h is few high =
    let id = id_small h.id (length before) is.id few in
    let lo = lo_small h.lo h.hi is.range high in
    let hi : nat_lt h.hi 65536 ≡ true = is_lt h.hi 65536 (omega (arith, high)) in
    rw (id, lo, hi, is.parent) refl

pub record IsRootSaid (v : Version) (h : Header) : Type 0 where
  pub above : list_all above (root_words h) ≡ true
  pub line : line_of v (root_words h) ≡ Some (Root h)

same_root : (h : Header) → h.parent ≡ None
    → (let r : Header = record { id = h.id; lo = h.lo; hi = h.hi; parent = None } in r) ≡ h
same_root h e = rw (sym e) refl

pub root_said : (v : Version) (h : Header) → header_numbers_fit h ≡ true → h.parent ≡ None → IsRootSaid v h
unfolding line_of root_of
root_said v h fit none =
    let p = and_parts (nat_lt h.id 64) (nat_lt h.lo 65536 && (nat_lt h.hi 65536
    && option_map_or (λ parent. nat_lt parent 64) h.parent true)) fit in
    let q = and_parts (nat_lt h.lo 65536) (nat_lt h.hi 65536 && option_map_or (λ parent. nat_lt parent 64) h.parent true) p.1 in
    let r = and_parts (nat_lt h.hi 65536) (option_map_or (λ parent. nat_lt parent 64) h.parent true) q.1 in
    let a = decimal_is h.id (tablet_small h.id p.0) in
    let b = decimal_is h.lo (hash_small h.lo q.0) in
    let c = decimal_is h.hi (hash_small h.hi r.0) in
    record {
      above = rw (a.above, b.above, c.above) refl;
      line = rw (a.word, b.word, c.word, a.number, b.number, c.number) (ap (λ r. Some (Root r)) (same_root h none));
    }
