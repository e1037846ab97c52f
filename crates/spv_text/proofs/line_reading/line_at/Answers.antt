use Rattle.spv_text.proofs.LineLemmas.{none_of_colon, none_of_name, none_of_parts}
use Rattle.spv_text.proofs.line_reading.line_at.Goals as goal

pub returns-in_default-after : goal.returns-in_default-after
returns-in_default-after c = none_of_colon c.args.text.now c.in-Some.behind.now c.in-Some.word c.in-Some.ensures.0 c.in-Some.ensures.1 c.in-Some.ensures.2 c.in_default-after.ensures

pub returns-in_default-name_at : goal.returns-in_default-name_at
returns-in_default-name_at c = none_of_name c.args.text.now c.in-Some.behind.now c.in-Some-after.named.now c.in-Some.word c.in-Some.ensures.0 c.in-Some.ensures.1 c.in-Some.ensures.2 c.in-Some-after.ensures c.in_default-name_at.ensures

pub returns-in_default-2 : goal.returns-in_default-2
returns-in_default-2 c =
    none_of_parts c.args.text.now c.in-Some.behind.now c.in-Some-after.named.now c.in-Some-name_at.name.now c.in-Some-name_at.parted.now c.in-Some.word c.in-Some.ensures.0 c.in-Some.ensures.1 c.in-Some.ensures.2 c.in-Some-after.ensures
    c.in-Some-name_at.ensures.0 c.in-Some-name_at.ensures.1 c.in-Some-name_at.ensures.2 (rw c.in_default-2.is at c.in_ok-parts.ensures)
