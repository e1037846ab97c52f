use Rattle.std.proofs.Common.{refl}
use Rattle.spv_app.specs.Checking.{checking, check_line, check_status}
use Rattle.spv_app.specs.Texting.{texting, text_line, text_status}
use Rattle.spv_app.proofs.Headlines.{headline, not_counted, nothing_fails}
use Rattle.spv_app.proofs.Checks as checks
use Rattle.spv_app.proofs.Servings as serving
use Rattle.spv_app.proofs.debug.debug_main.Goals as goal

pub serve-requires-clause-number : goal.serve-requires-clause-number
serve-requires-clause-number g c = serving.can_serve c.args.words.now c.in-Ok.request c.in-Ok.ensures.asked

pub returns-in-Ok-clause-headline : goal.returns-in-Ok-clause-headline
returns-in-Ok-clause-headline g c names m binary setup xs before words_are told binary_is setup_is few_binary few_setup left few held files reads writes memory =
    let d = c.serve.ensures in
    headline _ names names _ _ _ _ m binary setup xs before refl
    (serving.debugged_for c.args.words.now _ _ _ _ _ _ c.in-Ok.request names c.in-Ok.ensures.asked d.served words_are)
    (nothing_fails _ _ _ _ _ _ _ d.file_fault d.read_fault d.write_fault files reads writes memory)
    told binary_is setup_is few_binary few_setup left few held

pub returns-in-Ok-clause-check_headline : goal.returns-in-Ok-clause-check_headline
returns-in-Ok-clause-check_headline g c name m binary before word_is told binary_is few held files writes memory =
    let d = c.serve.ensures in
    let checked = serving.checked_for c.args.words.now _ _ _ _ _ _ c.in-Ok.request name c.in-Ok.ensures.asked d.served word_is in
    checks.answered_headline (λ bytes. check_status (checking bytes)) (λ bytes. check_line (checking bytes)) name name _ _ _ _ _ m binary before refl checked.2
    (checks.nothing_fails _ _ _ _ _ d.file_fault (serving.checked_not_read _ _ _ _ _ _ checked.2) d.write_fault files writes memory) told binary_is few held

pub returns-in-Ok-clause-text_headline : goal.returns-in-Ok-clause-text_headline
returns-in-Ok-clause-text_headline g c name m binary before word_is told binary_is few held files writes memory =
    let d = c.serve.ensures in
    let texted = serving.texted_for c.args.words.now _ _ _ _ _ _ c.in-Ok.request name c.in-Ok.ensures.asked d.served word_is in
    checks.answered_headline (λ bytes. text_status (texting bytes)) (λ bytes. text_line (texting bytes)) name name _ _ _ _ _ m binary before refl texted.2
    (checks.nothing_fails _ _ _ _ _ d.file_fault (serving.texted_not_read _ _ _ _ _ _ texted.2) d.write_fault files writes memory) told binary_is few held

pub returns-in-Ok-clause-make_headline : goal.returns-in-Ok-clause-make_headline
returns-in-Ok-clause-make_headline g c n before number_is held writes memory =
    let d = c.serve.ensures in
    let made = serving.made_for c.args.words.now _ _ _ _ _ _ c.in-Ok.request n c.in-Ok.ensures.asked d.served number_is in
    serving.made_due n before _ _ _ _ _ made.2 held (not_counted _ _ _ _ d.write_fault writes) memory

pub returns-in-Ok-clause-debugged : goal.returns-in-Ok-clause-debugged
returns-in-Ok-clause-debugged g c names due = serving.debugged_for c.args.words.now _ _ _ _ _ _ c.in-Ok.request names c.in-Ok.ensures.asked c.serve.ensures.served due

pub returns-in-Ok-clause-checked : goal.returns-in-Ok-clause-checked
returns-in-Ok-clause-checked g c name due = serving.checked_for c.args.words.now _ _ _ _ _ _ c.in-Ok.request name c.in-Ok.ensures.asked c.serve.ensures.served due

pub returns-in-Ok-clause-texted : goal.returns-in-Ok-clause-texted
returns-in-Ok-clause-texted g c name due = serving.texted_for c.args.words.now _ _ _ _ _ _ c.in-Ok.request name c.in-Ok.ensures.asked c.serve.ensures.served due

pub returns-in-Ok-clause-made : goal.returns-in-Ok-clause-made
returns-in-Ok-clause-made g c n due = serving.made_for c.args.words.now _ _ _ _ _ _ c.in-Ok.request n c.in-Ok.ensures.asked c.serve.ensures.served due

pub returns-in-Ok-clause-untaken : goal.returns-in-Ok-clause-untaken
returns-in-Ok-clause-untaken g c due = serving.untaken_for c.args.words.now _ _ _ _ _ _ c.in-Ok.request c.in-Ok.ensures.asked c.serve.ensures.served due

pub returns-in-Ok-clause-usage : goal.returns-in-Ok-clause-usage
returns-in-Ok-clause-usage g c = λ e. absurd (serving.served_not_usage _ c.in-Ok.request _ _ _ _ _ c.serve.ensures.served e)

pub returns-in-Ok-clause-file_name : goal.returns-in-Ok-clause-file_name
returns-in-Ok-clause-file_name g c = λ e. serving.names_for c.args.words.now c.in-Ok.request _ c.in-Ok.ensures.asked (c.serve.ensures.file_name e)

pub returns-in-Ok-clause-taken : goal.returns-in-Ok-clause-taken
returns-in-Ok-clause-taken g c = λ taken memory. serving.asks_one c.args.words.now c.in-Ok.request c.in-Ok.ensures.asked taken

pub returns-clause-debugged : goal.returns-clause-debugged
returns-clause-debugged g c names due = serving.nothing_debugged _ names _ _ refl

pub returns-clause-checked : goal.returns-clause-checked
returns-clause-checked g c name due = (refl, refl, serving.nothing_answered _ _ name _ _)

pub returns-clause-texted : goal.returns-clause-texted
returns-clause-texted g c name due = (refl, refl, serving.nothing_answered _ _ name _ _)
