-- What a handler of the tests makes of elements of a name, and of comments, by calls that are given to it.
use Rattle.std.specs.Prelude.{ℕ, List, [], if◌then◌else◌}
use Rattle.std.specs.Str.{bytes_eq}
use Rattle.html5amend.specs.Amending.{Amends}
use Rattle.html5amend.specs.Contents.{content_bytes}
use Rattle.html5amend.specs.Elements.{ElementOf, replaced_by, with_after, with_appended, with_before, with_content, with_name, with_prepended, with_value, without_tags, without_value}
use Rattle.html5amend.specs.Others.{OtherOf, put_after, put_before, put_instead}
use Rattle.html5ever_interface.specs.Token.{Told}
use Rattle.html5ever_interface.specs.Token.Told.{Comment}
use Rattle.test_amend.specs.declared.calls.Call.{Call}
use Rattle.test_amend.specs.declared.calls.Call.TheVariants as call
use Rattle.test_amend.specs.declared.calls.OtherCall.{OtherCall}
use Rattle.test_amend.specs.declared.calls.OtherCall.TheVariants as other

abbrev pub called : Call → ElementOf → ElementOf
called call.Nothing e = e
called (call.Set attribute value) e = with_value attribute.now value.now e
called (call.Unset attribute) e = without_value attribute.now e
called (call.Name name) e = with_name name.now e
called (call.Before content) e = with_before (content_bytes content) e
called (call.After content) e = with_after (content_bytes content) e
called (call.Prepend content) e = with_prepended (content_bytes content) e
called (call.Append content) e = with_appended (content_bytes content) e
called (call.Inner content) e = with_content (content_bytes content) e
called (call.Replace content) e = replaced_by (content_bytes content) e
called call.Remove e = replaced_by [] e
called call.Unwrap e = without_tags e

abbrev pub called_twice : List ℕ → Call → Call → ElementOf → ElementOf
called_twice name first second e = if bytes_eq e.tag.name name then called second (called first e) else e

abbrev pub other_called : OtherCall → OtherOf → OtherOf
other_called other.Keep o = o
other_called (other.Before content) o = put_before (content_bytes content) o
other_called (other.After content) o = put_after (content_bytes content) o
other_called (other.Instead content) o = put_instead (content_bytes content) o
other_called other.Drop o = put_instead [] o

abbrev pub comment_called : OtherCall → Told → OtherOf → OtherOf
comment_called call (Comment text) o = other_called call o
comment_called call token o = o

abbrev pub calling : List ℕ → Call → Call → OtherCall → Amends
calling name first second comments = record {
  element = called_twice name first second;
  other = λ o. comment_called comments o.token o;
}
