-- What is said of a generated workload, and that it is what its source committed.
--     digest bytes      from 0, for each byte 31 times the digest so far plus the byte, modulo 2^32
--     summary_with m t rs      how many records and commits the source has, and that rs are the rows at t
--     end_time m      the safe time at the ends of its logs
--     summary_of m      the summary with the rows of the logs at that time, which a target shows that took all records
--     summary_line number size summary      the line that says so
use Rattle.std.specs.Prelude.{ℕ, ◌+◌, ◌*◌, ◌^◌, ◌%◌, List, [], ◌∷◌, ◌++◌, codes, decimal, length, map}
use Rattle.xc_record.specs.Rows.{rows}
use Rattle.xc_record.specs.SafeTime.{safe_time}
use Rattle.xc_script.specs.Lines.{lines_text}
use Rattle.xc_source.specs.Machine.{Machine, logs_of, record_count}
use Rattle.xc_source_laws.specs.Laws.{ends}
use Rattle.xc_tool.specs.declared.generate.Summary.{Summary}
use Rattle.xc_tool.specs.Answers.{row_line}
use Rattle.xc_tool.specs.AuditLines.{line_of_words}

abbrev pub digest_from : ℕ → List ℕ → ℕ
digest_from d [] = d
digest_from d (byte ∷ bytes) = digest_from ((31 * d + byte) % 2 ^ 32) bytes

abbrev pub digest : List ℕ → ℕ
digest bytes = digest_from 0 bytes

abbrev pub summary_with : Machine → ℕ → List (List ℕ × List ℕ) → Summary
summary_with m t rs = record {
  records = record_count m;
  commits = length m.commits;
  safe = t;
  rows = length rs;
  digest = digest (lines_text (map row_line rs));
}

abbrev pub end_time : Machine → ℕ
end_time m = safe_time (logs_of m) (ends (logs_of m))

abbrev pub summary_of : Machine → Summary
summary_of m = summary_with m (end_time m) (rows (logs_of m) (end_time m))

-- what the source did
abbrev pub made_words : ℕ → ℕ → Summary → List (List ℕ)
made_words number size s =
    codes "gen" ∷ decimal number ∷ decimal size ∷ codes "records" ∷ decimal s.records ∷ codes "commits" ∷ decimal s.commits ∷ []

-- what a target shows of it
abbrev pub shown_words : Summary → List (List ℕ)
shown_words s = codes "safe" ∷ decimal s.safe ∷ codes "rows" ∷ decimal s.rows ∷ codes "digest" ∷ decimal s.digest ∷ []

abbrev pub summary_line : ℕ → ℕ → Summary → List ℕ
summary_line number size s = line_of_words (made_words number size s ++ shown_words s)
