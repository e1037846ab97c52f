use Rattle.std.proofs.Common.{not, nat_eq, length, sym, ap, ◌∙◌}
use Rattle.std.specs.List.{concat}
use Rattle.std.specs.Option.{option_map}
use Rattle.spv_source.proofs.WindowLemmas.{some_bytes}
use Rattle.spv_source.proofs.windows.source_lines.Goals as goal

pub returns-clause-shown : goal.returns-clause-shown
returns-clause-shown c =
    ap not (c.is_empty.ensures ∙ ap (λ bytes. nat_eq (length bytes) 0) (c.as_slice-shown.ensures.value ∙ c.in_ok-rows.ensures)) ∙ sym (some_bytes c.args.line (option_map concat c.args.text))
