use Rattle.std.proofs.Common.{◌≡◌, sym, ap, ◌∙◌, arith}
use Rattle.std.specs.Option.{unwrap_or}
use Rattle.mapdb_lists.specs.OwnChanges.{mapped_change}
use Rattle.mapdb_lists.proofs.ChangeLemmas.LastChanges.{left_same}
use Rattle.mapdb_lists.proofs.Lists.Results.{on_both}
use Rattle.mapdb_lists.proofs.many_changes.many_write.Goals as goal

pub returns : goal.returns
returns c =
    let ends = c.in_ok-many_write_end.ensures in
    let apart = λ (e : c.args.first ≡ c.args.end). let no : ⊥ = omega arith in no in
    on_both c.many_write_first.result
    (λ there elsewhere. record {
      at_first =
          ap (unwrap_or (mapped_change c.many_write_first.new.map c.args.first))
          (left_same (mapped_change c.args.map.now) (mapped_change c.many_write_end.new.map) c.args.before c.args.first
          (λ q below. sym (ends.elsewhere q (λ e. let no : ⊥ = omega arith in no))))
          ∙ there;
      at_end = λ inside.
          ap (λ o. unwrap_or o c.args.change) (elsewhere c.args.end apart) ∙ ends.there inside;
      elsewhere = λ q not_first not_end. elsewhere q not_first ∙ ends.elsewhere q not_end;
    })
    c.many_write_first.ensures.there c.many_write_first.ensures.elsewhere
