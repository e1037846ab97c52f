use Rattle.spv_cmd.proofs.KeywordLemmas.{one_keyword}
use Rattle.spv_cmd.proofs.keywords.keywords_differ.Goals as goal

pub returns : goal.returns
returns c j k e = one_keyword j k e
