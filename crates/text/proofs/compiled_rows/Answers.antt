-- The words of a right input are its file.
use Rattle.std.proofs.Common.{refl, sym, ◌∙◌, length-take-le}
use Rattle.text.proofs.Listed.{input-words, input-within, input-compiled, file-within}
use Rattle.text.proofs.Lists.{refused-input}
use Rattle.text.proofs.compiled_rows.Goals as goal

pub returns-then-not-right_input-clause-listing : goal.returns-then-not-right_input-clause-listing
returns-then-not-right_input-clause-listing c =
    rw c.at.ensures (refused-input c.args.input.now (sym c.right_input.ensures ∙ c.if-not-right_input.true))

pub slice_bounds-file-end : goal.slice_bounds-file-end
slice_bounds-file-end c = input-within _ (sym c.right_input.ensures ∙ c.if-not-right_input.false) _ _ refl c.from_bytes.ensures

pub slice_bounds-compile-end : goal.slice_bounds-compile-end
slice_bounds-compile-end c =
    sym (length-take-le _ _ (input-within _ (sym c.right_input.ensures ∙ c.if-not-right_input.false) _ _ refl c.from_bytes.ensures))

pub returns-clause-listing : goal.returns-clause-listing
returns-clause-listing c =
    let right = sym c.right_input.ensures ∙ c.if-not-right_input.false in
    input-compiled _ right (input-words _ right _ _ refl c.from_bytes.ensures) c.compile.ensures c.requires refl

pub returns-clause-within : goal.returns-clause-within
returns-clause-within c = file-within c.compile.ensures
