use Rattle.std.proofs.Common.{rules}
use Rattle.mapdb_snapshot.proofs.forms.form_of.Goals as goal

pub returns-in-2-clause-form : goal.returns-in-2-clause-form
returns-in-2-clause-form c = search rules
