use Rattle.std.proofs.Common.{◌∙◌, ap, true}
use Rattle.csv.specs.Reading.{builder_config, builder_names_headers, builder_trim, with_flexible}
use Rattle.hy_csv.proofs.ReadingLaws.{made_stands}
use Rattle.hy_csv.proofs.reading.reader_of.Goals as goal

pub returns : goal.returns
returns c =
    let made = c.from_reader.ensures in
    let builder = c.flexible.ensures ∙ ap (λ builder. with_flexible builder true) c.has_headers.ensures in
    made_stands c.from_reader.result c.args.text.now (made.config ∙ ap builder_config builder ∙ c.new.ensures.config)
    (made.trim ∙ ap builder_trim builder ∙ c.new.ensures.trim)
    (made.has_headers ∙ ap builder_names_headers builder) made.headers made.state made.source
