-- What a reader knows.
use Rattle.std.specs.Prelude.{map}
use Rattle.pyc_lex.specs.declared.reader.Reader.{Reader}
use Rattle.pyc_lex.specs.Lines.{Reading}
use Rattle.pyc_lex.specs.View.{line_in, ignore_in}

-- a reader's fields as a reading
abbrev pub reading_of : Reader → Reading
reading_of r = record {
  lexis =
      record {
        lines = map line_in r.lines.items;
        ignores = map ignore_in r.ignores.items;
        whole_file = r.whole_file;
      };
  indents = r.indents.items;
  brackets = r.brackets.items;
  margin = r.margin;
  is_measuring = r.is_measuring;
  begun = r.begun.items;
  from = r.from;
  position = r.position;
}
