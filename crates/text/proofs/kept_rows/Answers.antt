-- The rows that the compile leaves are listed without those that the pass takes out.
use Rattle.std.proofs.Common.{◌∙◌}
use Rattle.text.proofs.Listed.{kept-listed, kept-within}
use Rattle.text.proofs.kept_rows.Goals as goal

pub returns-clause-listing : goal.returns-clause-listing
returns-clause-listing c =
    (rw c.in_ok-rows.was at c.compiled_rows.ensures.listing)
    ∙ kept-listed _ c.drop_hidden.ensures.value c.drop_hidden.ensures.table_after _

pub returns-clause-within : goal.returns-clause-within
returns-clause-within c = kept-within _ c.drop_hidden.ensures.value c.drop_hidden.ensures.table_after _
