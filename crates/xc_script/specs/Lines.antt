-- The lines of output, as they are written.
--     break_name kind      the name of a break of the order rules
--     value_word value      `=` and the value's word, or `absent`
--     line_text line      a line with its end
--     lines_text lines      lines one after the other
--     is_halt line      the line is that of a poll that met a break of the order rules
--     Appends result before text after      the text was put behind what was there; where memory ran out, a prefix of it may have been
use Rattle.std.specs.Prelude.{◌≡◌, ℕ, Bool, true, false, List, [], ◌∷◌, ◌++◌, codes, decimal, Option, Some, None, Result, Ok, Err, map}
use Rattle.std.specs.Prelude.{flat_map}
use Rattle.std.specs.List.{join_with_byte}
use Rattle.xc_base.specs.Escapes.{escaped}
use Rattle.xc_record.specs.declared.record.Break.{Break}
use Rattle.xc_record.specs.declared.record.Break.TheVariants as break
use Rattle.xc_record.specs.declared.session.Line.{Line}
use Rattle.xc_record.specs.declared.session.Line.TheVariants as line

abbrev pub break_name : Break → List ℕ
break_name break.TimeBack = codes "time-back"
break_name break.CommitAhead = codes "commit-ahead"
break_name break.CommitBelow = codes "commit-below"
break_name break.SafeBack = codes "safe-back"
break_name break.SafeAhead = codes "safe-ahead"
break_name break.AfterSplit = codes "after-split"

abbrev pub value_word : Option (List ℕ) → List ℕ
value_word None = codes "absent"
value_word (Some value) = codes "=" ++ escaped value

-- numbers parted by commas, in brackets
abbrev pub number_list : List ℕ → List ℕ
number_list numbers = codes "[" ++ join_with_byte 44 (map decimal numbers) ++ codes "]"

abbrev pub truth : Bool → List ℕ
truth true = codes "true"
truth false = codes "false"

-- the compact JSON object of a report
abbrev pub report_object : List ℕ → Bool → List ℕ → ℕ → List ℕ → ℕ → List ℕ
report_object acks closed cursors cutoff places safe =
    codes "{\"acks\":" ++ number_list acks ++ codes ",\"closed\":" ++ truth closed
    ++ codes ",\"cursors\":" ++ number_list cursors ++ codes ",\"cutoff\":" ++ decimal cutoff
    ++ codes ",\"places\":" ++ number_list places ++ codes ",\"safe\":" ++ decimal safe ++ codes "}"

-- the words of a line
abbrev pub line_words : Line → List (List ℕ)
line_words (line.Wait id parent) = codes "wait" ∷ decimal id ∷ decimal parent ∷ []
line_words (line.Halt id number kind) = codes "halt" ∷ decimal id ∷ decimal number ∷ break_name kind ∷ []
line_words (line.AtEnd id) = codes "atend" ∷ decimal id ∷ []
line_words (line.Polled id count) = codes "polled" ∷ decimal id ∷ decimal count ∷ []
line_words (line.Stopped id count) = codes "stopped" ∷ decimal id ∷ decimal count ∷ []
line_words (line.Ack id place) = codes "ack" ∷ decimal id ∷ decimal place ∷ []
line_words (line.Restart id place) = codes "restart" ∷ decimal id ∷ decimal place ∷ []
line_words (line.Closed t) = codes "closed" ∷ decimal t ∷ []
line_words (line.Drain t) = codes "drain" ∷ decimal t ∷ []
line_words (line.Saw reader t key value) = codes "saw" ∷ decimal reader ∷ decimal t ∷ escaped key ∷ value_word value ∷ []
line_words (line.Safe t) = codes "safe" ∷ decimal t ∷ []
line_words (line.Read t key value) = codes "read" ∷ decimal t ∷ escaped key ∷ value_word value ∷ []
line_words (line.ReadAt u key value) = codes "readat" ∷ decimal u ∷ escaped key ∷ value_word value ∷ []
line_words (line.Ahead u safe) = codes "ahead" ∷ decimal u ∷ decimal safe ∷ []
line_words (line.Pruned u cutoff) = codes "pruned" ∷ decimal u ∷ decimal cutoff ∷ []
line_words (line.Scan t count) = codes "scan" ∷ decimal t ∷ decimal count ∷ []
line_words (line.Row key value) = codes "row" ∷ escaped key ∷ value_word (Some value) ∷ []
line_words (line.Prune cutoff) = codes "prune" ∷ decimal cutoff ∷ []
line_words (line.Failover t count) = codes "failover" ∷ decimal t ∷ decimal count ∷ []
line_words (line.Report acks closed cursors cutoff places safe) = codes "report" ∷ report_object acks closed cursors cutoff places safe ∷ []

abbrev pub line_text : Line → List ℕ
line_text l = join_with_byte 32 (line_words l) ++ codes "\n"

abbrev pub lines_text : List Line → List ℕ
lines_text lines = flat_map line_text lines

abbrev pub is_halt : Line → Bool
is_halt (line.Halt id number kind) = true
is_halt _ = false

-- a prefix of the text stands behind what was there before
pub record IsBegun (before text after : List ℕ) : Type 0 where
  pub written : List ℕ
  pub left : List ℕ
  pub prefix : text ≡ written ++ left
  pub behind : after ≡ before ++ written

abbrev pub Appends : {X E : Type 0} → Result X E → List ℕ → List ℕ → List ℕ → Type 0
Appends (Ok x) before text after = after ≡ before ++ text
Appends (Err e) before text after = IsBegun before text after
