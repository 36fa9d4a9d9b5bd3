-- What a source script may say.
--     is_allowed command      its numbers are within their ranges, and its names are well formed
--     IsSourceScript script      a source can begin with its start and its roots, its commands are allowed, and it isn't too long
use Rattle.std.specs.Prelude.{◌≡◌, Bool, true, ◌&&◌, ◌+◌, ◌^◌, ◌<◌, ◌≤◌, length}
use Rattle.std.specs.List.{list_all}
use Rattle.xc_record.specs.Headers.{are_headers}
use Rattle.xc_source.specs.declared.command.SourceCommand.{SourceCommand}
use Rattle.xc_source_script.specs.declared.script.SourceScript.{SourceScript}
use Rattle.xc_source_script.specs.Words.{command_numbers_fit, command_names_fit}
use Rattle.xc_source_script.specs.SourceText.{is_root}
use Rattle.xc_base.specs.declared.limits.TheConstants.{SCRIPT_LINES}

abbrev pub is_allowed : SourceCommand → Bool
is_allowed c = command_numbers_fit c && command_names_fit c

pub record IsSourceScript (script : SourceScript) : Type 0 where
  pub start : script.start < 2 ^ 62
  -- the roots are numbered in order, share out all hashes, and are at most MOST_TABLETS
  pub headers : are_headers script.roots ≡ true
  pub roots : list_all is_root script.roots ≡ true
  pub commands : list_all is_allowed script.commands ≡ true
  -- with the first line, the start and the last line
  pub lines : length script.roots + length script.commands + 3 ≤ SCRIPT_LINES
