use Rattle.base_sha256.proofs.Counting.{below_eight}
use Rattle.base_sha256.proofs.ValueLemmas.{value_words}
use Rattle.base_sha256.proofs.walks.load.Goals as goal

pub returns : goal.returns
returns c l lt =
    value_words _ _ (c.are_values.ensures.long l lt) (c.are_values.ensures.bytes l lt)
    (below_eight _ (c.value_words.ensures l lt) (c.value_words-2.ensures l lt) (c.value_words-3.ensures l lt) (c.value_words-4.ensures l lt)
    (c.value_words-5.ensures l lt) (c.value_words-6.ensures l lt) (c.value_words-7.ensures l lt) (c.value_words-8.ensures l lt))
