-- The command line, in clap's definitions.
use Rattle.std.specs.Prelude.{ℕ, ◌/◌, Bool, true, false, List, [], ◌∷◌, Option, Some, None}
use Rattle.std.specs.Prelude.{Result, Ok, Err, codes, if◌then◌else◌, ◌==◌}
use Rattle.std.specs.Option.{option_map, option_and_then}
use Rattle.std.specs.Str.{bytes_eq}
use Rattle.clap.specs.Words.{App, Kinds, Row, Rule, Shape, Text, first_of, new_rule}
use Rattle.clap.specs.Words.{with_subcommand, fault_of, subcommand_of}
use Rattle.clap.specs.Simple.{new_shape}
use Rattle.mapdb_exchange.specs.declared.limits.TheConstants.{MOST_CAPACITY}
use Rattle.mapdb_facts.specs.declared.names.Space.{Space}
use Rattle.mapdb_fpage.specs.Bounds.{page_bytes}
use Rattle.mapdb_lines.specs.declared.fault.LineFault.{LineFault}
use Rattle.mapdb_lines.specs.Limits.{decimal_digits}
use Rattle.mapdb_lines.specs.Spellings.{address_at, space_at}
use Rattle.mapdb_lines.specs.Words.{number_of}
use Rattle.mapdb_program.specs.declared.commands.Job.{Job}
use Rattle.mapdb_program.specs.declared.commands.Job.TheVariants.{Run, Tell, Threads}
use Rattle.mapdb_program.specs.declared.snapshots.Asked.{Asked}
use Rattle.mapdb_program.specs.declared.snapshots.Asked.TheVariants.{Page, Picture}

-- the argument `--capacity N`, which is 16 where it is not given
abbrev pub capacity_rule : Rule
capacity_rule = record (new_rule (codes "capacity")) {
  long = Some (codes "capacity");
  value_names = 1;
  defaults = codes "16" ∷ [];
}

-- the subcommand `threads`
abbrev pub threads : Shape
threads = record (new_shape (codes "threads")) { rules = capacity_rule ∷ [] }

-- an argument that must be there
abbrev pub word_rule : Text → Rule
word_rule name = record (new_rule name) { required = true }

-- the subcommand `explain`
abbrev pub explain : Shape
explain = record (new_shape (codes "explain")) {
  rules = word_rule (codes "space")
      ∷ word_rule (codes "address") ∷ [];
}

-- the program alone, which has a version and requires a subcommand
abbrev pub program : App
program = record {
  top = record (new_shape (codes "l4map")) { subcommand_required = true; has_version = true };
  subs = [];
}

-- the command line of the program, with its subcommands
abbrev pub l4map : App
l4map =
    with_subcommand (with_subcommand (with_subcommand (with_subcommand program
    (new_shape (codes "run"))) threads) (new_shape (codes "picture"))) explain

-- a link holds one message at least
abbrev pub at_least_one : ℕ → Option ℕ
at_least_one capacity = if capacity == 0 then None else Some capacity

-- the capacity that a text says: a decimal number, from 1 to the greatest
abbrev pub capacity_said : Text → Option ℕ
capacity_said text = option_and_then at_least_one (number_of 10 decimal_digits MOST_CAPACITY text)

-- what the arguments of `threads` ask for
abbrev pub threads_given : List Row → Option Job
threads_given rows =
    option_map Threads (option_and_then capacity_said (first_of (codes "capacity") rows))

-- the page of an address in a space, where both are words of a script
abbrev pub page_of : Result Space LineFault → Result ℕ LineFault → Option Asked
page_of (Ok space) (Ok address) = Some (Page space (address / page_bytes))
page_of (Ok space) (Err fault) = None
page_of (Err fault) address = None

-- the page that the words of a script for a space and an address name
abbrev pub page_said : Text → Text → Option Asked
page_said space address = page_of (space_at space) (address_at address)

-- what the arguments of `explain` ask for
abbrev pub page_given : List Row → Option Asked
page_given rows =
    option_and_then (λ space. option_and_then (page_said space) (first_of (codes "address") rows))
    (first_of (codes "space") rows)

-- what a subcommand of this name asks for, by what was found for its arguments
abbrev pub job_named : Text → List Row → Option Job
job_named name rows =
    if bytes_eq name (codes "run") then Some Run
    else (if bytes_eq name (codes "threads") then threads_given rows
    else (if bytes_eq name (codes "picture") then Some (Tell Picture)
    else (if bytes_eq name (codes "explain") then option_map Tell (page_given rows)
    else None)))

abbrev pub asked : Text × List Row → Option Job
asked found = job_named found.0 found.1

-- clap finds no fault
abbrev pub has_no_fault : Kinds → Bool
has_no_fault [] = true
has_no_fault (kind ∷ kinds) = false

-- what the words ask for: clap takes them, and they name a subcommand, whose arguments have values
-- that it takes
unfoldable pub job_in : List Text → Option Job
job_in words =
    if has_no_fault (fault_of l4map words) then option_and_then asked (subcommand_of l4map words)
    else None
