use Rattle.std.proofs.Common.{◌≡◌, [], ◌++◌, ap, ◌∙◌, append-nil}
use Rattle.std.specs.List.{concat, flat_map}
use Rattle.std.specs.Str.Lines.{lines}
use Rattle.std.proofs.lemmas.Result.{IfOk-weaker}
use Rattle.spv_source.specs.Walks.{shown_after, shown_from}
use Rattle.spv_source.specs.Windows.{row_text, window}
use Rattle.spv_source.proofs.windows.window_of.Goals as goal

pub returns : goal.returns
returns c =
    let text = concat c.args.text.now in
    IfOk-weaker c.finish.result (λ rows. rows.items ≡ shown_after c.pass_all.new.self []) (λ rows. rows.items ≡ flat_map (row_text c.args.line) (window c.args.line text))
    (λ rows h. h ∙ c.in_ok-pass_all.ensures [] ∙ c.new-walk.ensures (text ++ []) ∙ ap (λ bytes. shown_from c.args.line 1 (lines bytes)) (append-nil text))
    c.finish.ensures
