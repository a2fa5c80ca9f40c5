-- What clap found, and what it asks for.
use Rattle.std.proofs.Common.{rules, inl, inr, ◌⊎◌, [], ◌∷◌, ◌≡◌, ◌∙◌, refl, sym, ap, List, Option, Some, None, false, option_map, true}
use Rattle.std.specs.Prelude.{unwrap_or}
use Rattle.std.specs.Option.{option_and_then}
use Rattle.clap.specs.Words.{AddsArg, AddsSubcommand, App, Shape, with_subcommand, Row, Rule, Text, app_of, rule_of, shape_of, with_rule, HasKind, HasMatchesOf, Kinds, fault_of, is_simple, is_simple_and_free, kind_of, subcommand_of, first_of, first_value, rows_of, subcommand_name_of, subcommand_rows_of}
use Rattle.clap.specs.declared.builder.arg.Arg.{Arg}
use Rattle.clap.specs.declared.builder.command.Command.{Command}
use Rattle.clap.specs.declared.builder.command.Command.TheViews.{out-Command}
use Rattle.clap.specs.declared.parser.matches.ArgMatches.{ArgMatches}
use Rattle.clap.specs.declared.parser.matches.ArgMatches.TheViews.{out-ArgMatches}
use Rattle.clap.specs.declared.parser.matches.Found.{Found}
use Rattle.clap.specs.declared.error.Error.{Error}
use Rattle.clap.specs.declared.error.kind.ErrorKind.TheVariants.{OutOfMemory}
use Rattle.clap.proofs.OnLiterals.{clap_on_literals}
use Rattle.clap.proofs.WalkLemmas.{first_value-rows}
use Rattle.mapdb_program.specs.Commands.{asked, job_in, job_named, l4map}

-- a command to which an argument was added
pub shape_with_rule : (old new : Command) (a : Arg) (rule : Rule) → AddsArg old a new → a.global ≡ false → rule_of a ≡ rule
    → shape_of new ≡ (with_rule (app_of old) rule).top
shape_with_rule old new a rule added plain is_rule = ap (λ (app : App). app.top) (added.shape plain ∙ ap (with_rule (app_of old)) is_rule)

-- the first value of an argument, from the rows
pub first_value_rows : (f : Found) (id : Text) → first_value f id ≡ first_of id (rows_of f)
first_value_rows f id = first_value-rows f id

plain_alone : (c : Command) → (shape_of c).is_plain ≡ true → (out-Command c).has_globals ≡ false
plain_alone c plain = search rules

-- a command to which a plain subcommand was added
pub app_with_subcommand : (old sub new : Command) (s : Shape) → AddsSubcommand old sub new → shape_of sub ≡ s → s.is_plain ≡ true
    → app_of new ≡ with_subcommand (app_of old) s
app_with_subcommand old sub new s added is_shape plain =
    added.shape (plain_alone sub (ap (λ (x : Shape). x.is_plain) is_shape ∙ plain)) ∙ ap (with_subcommand (app_of old)) is_shape

-- clap's definitions of faults are exact for this command line
is_exact : is_simple_and_free l4map ≡ true
unfolding clap_on_literals
is_exact = refl

-- and so are those of matches
is_plain : is_simple l4map ≡ true
unfolding clap_on_literals
is_plain = refl

-- words that clap takes
took : (words : List Text) → fault_of l4map words ≡ [] → job_in words ≡ option_and_then asked (subcommand_of l4map words)
unfolding job_in
took words none = rw none refl

pub taken_asks : (words : List Text) (app : App) (m : ArgMatches) → app ≡ l4map → (is_simple_and_free app ≡ true → fault_of app words ≡ [])
    → HasMatchesOf app words m → job_in words ≡ option_and_then asked (subcommand_rows_of m)
taken_asks words app m shape none matches =
    let rows : subcommand_rows_of m ≡ subcommand_of l4map words = (matches (ap is_simple shape ∙ is_plain)).1 ∙ ap (λ (a : App). subcommand_of a words) shape in
    took words (ap (λ (a : App). fault_of a words) (sym shape) ∙ none (ap is_simple_and_free shape ∙ is_exact)) ∙ ap (option_and_then asked) (sym rows)

-- words that clap refuses
refused : (words : List Text) (e : Error) (kinds : Kinds) → fault_of l4map words ≡ kinds → HasKind kinds e → (kind_of e ≡ OutOfMemory) ⊎ (job_in words ≡ None)
unfolding job_in
refused words e [] is h = elim h [ inl k ↦ inl k | inr k ↦ absurd k ]
refused words e (k ∷ kinds) is h = inr (rw is refl)

pub refused_none : (words : List Text) (app : App) (e : Error) → app ≡ l4map → (is_simple_and_free app ≡ true → HasKind (fault_of app words) e)
    → (kind_of e ≡ OutOfMemory) ⊎ (job_in words ≡ None)
refused_none words app e shape kinds =
    refused words e (fault_of app words) (ap (λ (a : App). fault_of a words) (sym shape)) (kinds (ap is_simple_and_free shape ∙ is_exact))
