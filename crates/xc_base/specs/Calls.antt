-- The calls of a stream in memory, which fails at the calls that it was told to fail at.
--     Calls      which calls fail, counted from 1, and how many were made and how many failed so far
--     is_failing calls      whether the next call fails
--     after_call calls      the calls after one more
--     SourceState, SinkState      what such a source has left and such a sink holds, beside its calls
use Rattle.std.specs.Prelude.{ℕ, Bool, List, ◌+◌, ◌-◌, ◌^◌, ◌==◌, min, if◌then◌else◌}
use Rattle.std.specs.List.{list_any}

pub record Calls : Type 0 where
  pub failing : List ℕ
  pub made : ℕ
  pub failed : ℕ

-- none was made yet
abbrev pub no_calls : List ℕ → Calls
no_calls failing = record { failing = failing; made = 0; failed = 0 }

-- one more, up to the end of a count of 64 bits
abbrev pub counted : ℕ → ℕ
counted n = min (n + 1) (2 ^ 64 - 1)

abbrev pub is_failing : Calls → Bool
is_failing calls = list_any (λ call. call == counted calls.made) calls.failing

abbrev pub after_call : Calls → Calls
after_call calls = record {
  failing = calls.failing;
  made = counted calls.made;
  failed = if is_failing calls then counted calls.failed else calls.failed;
}

pub record SourceState : Type 0 where
  pub left : List ℕ
  pub calls : Calls

pub record SinkState : Type 0 where
  pub written : List ℕ
  pub calls : Calls
