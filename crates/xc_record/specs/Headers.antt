-- The rules on headers.
--     Next      what may stand next: a root from this hash on, or at 65536 a left child; a left child; the right child of this parent with
--         this range
--     next_after next h      what may stand after h
--     fits before next h      h may stand next after the headers before
--     headers_fit hs      the rules hold of all the headers
--     are_headers hs      the same, and there are at most MOST_TABLETS of them
--     children hs id      the two headers that name id as their parent
use Rattle.std.specs.Prelude.{ℕ, ◌+◌, Bool, true, false, List, [], ◌∷◌, ◌++◌, Option, Some, None, if◌then◌else◌, ◌&&◌, ◌==◌, nat_le, nat_lt}
use Rattle.std.specs.Prelude.{not, length, slice_get}
use Rattle.std.specs.List.{list_any}
use Rattle.std.specs.Option.{option_map_or}
use Rattle.xc_base.specs.declared.limits.TheConstants.{MOST_TABLETS}
use Rattle.xc_record.specs.declared.record.Header.{Header}
use Rattle.xc_record.specs.declared.headers.Next.{Next}
use Rattle.xc_record.specs.declared.headers.Next.TheVariants.{RootAt, LeftChild, RightChild}

abbrev pub is_child_of : ℕ → Header → Bool
is_child_of id h = option_map_or (λ parent. parent == id) h.parent false

-- the left child of a tablet that has no child yet: it has the lower part of its range
abbrev pub splits_off : List Header → ℕ → Header → Bool
splits_off before id h =
    not (list_any (is_child_of id) before)
    && option_map_or (λ parent. h.lo == parent.lo && nat_lt h.hi parent.hi) (slice_get before id) false

abbrev pub child_fits : List Header → ℕ → Next → Header → Bool
child_fits before id (RootAt lo) h = lo == 65536 && splits_off before id h
child_fits before id LeftChild h = splits_off before id h
child_fits before id (RightChild parent lo hi) h = id == parent && (h.lo == lo && h.hi == hi)

abbrev pub root_fits : Next → Header → Bool
root_fits (RootAt lo) h = h.lo == lo
root_fits LeftChild h = false
root_fits (RightChild parent lo hi) h = false

abbrev pub parent_fits : List Header → Next → Header → Option ℕ → Bool
parent_fits before next h None = root_fits next h
parent_fits before next h (Some id) = child_fits before id next h

abbrev pub fits : List Header → Next → Header → Bool
fits before next h = h.id == length before && (nat_le h.lo h.hi && parent_fits before next h h.parent)

-- the end of the parent's range
abbrev pub hi_of : List Header → ℕ → ℕ
hi_of before id = option_map_or (λ parent. parent.hi) (slice_get before id) 0

abbrev pub after_child : List Header → ℕ → Next → Header → Next
after_child before id (RootAt lo) h = RightChild id (h.hi + 1) (hi_of before id)
after_child before id LeftChild h = RightChild id (h.hi + 1) (hi_of before id)
after_child before id (RightChild parent lo hi) h = LeftChild

abbrev pub next_after : List Header → Next → Header → Option ℕ → Next
next_after before next h None = RootAt (h.hi + 1)
next_after before next h (Some id) = after_child before id next h

-- the headers may end here
abbrev pub may_end : Next → Bool
may_end (RootAt lo) = lo == 65536
may_end LeftChild = true
may_end (RightChild parent lo hi) = false

abbrev pub fit_from : List Header → Next → List Header → Bool
fit_from before next [] = may_end next
fit_from before next (h ∷ hs) = fits before next h && fit_from (before ++ h ∷ []) (next_after before next h h.parent) hs

unfoldable pub headers_fit : List Header → Bool
headers_fit hs = fit_from [] (RootAt 0) hs

unfoldable pub are_headers : List Header → Bool
are_headers hs = nat_le (length hs) MOST_TABLETS && headers_fit hs

abbrev pub with_next : Header → List Header → Option (Header × Header)
with_next left [] = None
with_next left (right ∷ hs) = Some (left, right)

-- the first header that names id as its parent, and the one after it
abbrev pub children : List Header → ℕ → Option (Header × Header)
children [] id = None
children (h ∷ hs) id = if is_child_of id h then with_next h hs else children hs id
