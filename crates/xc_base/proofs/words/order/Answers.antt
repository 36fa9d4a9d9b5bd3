use Rattle.std.proofs.Common.{◌≡◌, ℕ, ◌<◌, List, length, get_or, sym, ◌∙◌, arith}
use Rattle.xc_base.proofs.KeyOrder.{FourWords, unequal_words, equal_words, last_words}
use Rattle.xc_base.proofs.NameLemmas.{below-bytes}
use Rattle.xc_base.proofs.words.order.Goals as goal

four : (a b : List ℕ) → length a ≡ 32 → length b ≡ 32 → ((i : ℕ) → get_or a i 0 < 256) → ((i : ℕ) → get_or b i 0 < 256) → FourWords a b
four a b l m f g = record { left_length = l; right_length = m; left_bytes = below-bytes a f; right_bytes = below-bytes b g }

pub returns-then-x-y : goal.returns-then-x-y
returns-then-x-y c =
    let a = c.args.a.now in
    let b = c.args.b.now in
    let h = four a b c.told-a c.told-b c.fits-a c.fits-b in
    c.cmp.ensures
    ∙ sym (unequal_words a b 0 _ _ h (omega arith) (record { left = c.word_at-x.ensures; right = c.word_at-y.ensures }) c.if-x-y.true)

pub returns-then-x-y-2 : goal.returns-then-x-y-2
returns-then-x-y-2 c =
    let a = c.args.a.now in
    let b = c.args.b.now in
    let h = four a b c.told-a c.told-b c.fits-a c.fits-b in
    c.cmp-then-x-y-2.ensures
    ∙ sym
    (equal_words a b 0 _ _ h (omega arith) (record { left = c.word_at-x.ensures; right = c.word_at-y.ensures }) c.if-x-y.false
    ∙ unequal_words a b 8 _ _ h (omega arith) (record { left = c.word_at-x-2.ensures; right = c.word_at-y-2.ensures }) c.if-x-y-2.true)

pub returns-then-x-y-3 : goal.returns-then-x-y-3
returns-then-x-y-3 c =
    let a = c.args.a.now in
    let b = c.args.b.now in
    let h = four a b c.told-a c.told-b c.fits-a c.fits-b in
    c.cmp-then-x-y-3.ensures
    ∙ sym
    (equal_words a b 0 _ _ h (omega arith) (record { left = c.word_at-x.ensures; right = c.word_at-y.ensures }) c.if-x-y.false
    ∙ equal_words a b 8 _ _ h (omega arith) (record { left = c.word_at-x-2.ensures; right = c.word_at-y-2.ensures }) c.if-x-y-2.false
    ∙ unequal_words a b 16 _ _ h (omega arith) (record { left = c.word_at-x-3.ensures; right = c.word_at-y-3.ensures }) c.if-x-y-3.true)

pub returns : goal.returns
returns c =
    let a = c.args.a.now in
    let b = c.args.b.now in
    let h = four a b c.told-a c.told-b c.fits-a c.fits-b in
    c.cmp-2.ensures
    ∙ sym
    (equal_words a b 0 _ _ h (omega arith) (record { left = c.word_at-x.ensures; right = c.word_at-y.ensures }) c.if-x-y.false
    ∙ equal_words a b 8 _ _ h (omega arith) (record { left = c.word_at-x-2.ensures; right = c.word_at-y-2.ensures }) c.if-x-y-2.false
    ∙ equal_words a b 16 _ _ h (omega arith) (record { left = c.word_at-x-3.ensures; right = c.word_at-y-3.ensures }) c.if-x-y-3.false
    ∙ last_words a b _ _ h (record { left = c.word_at.ensures; right = c.word_at-2.ensures }))
