-- Each section is put behind the one before.
use Rattle.decimals.specs.Text.{words_text}
use Rattle.decimals.proofs.lines.put_words.Goals as goal

pub returns : goal.returns
unfolding words_text
returns g c =
    let then = g.met.S.Sink.then in
    rw (← c.put_section-atoms.ensures.rest, ← c.put_section-nodes.ensures.rest, ← c.put_section-rest.ensures.rest)
    (then _ _ _ _ _ c.put_section-atoms.ensures.put (then _ _ _ _ _ c.put_section-nodes.ensures.put
    (then _ _ _ _ _ c.put_section-rest.ensures.put c.put_rest.ensures)))
