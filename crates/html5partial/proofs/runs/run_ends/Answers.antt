use Rattle.html5partial.proofs.runs.run_ends.Goals as goal

pub returns-in-Data-clause-ends : goal.returns-in-Data-clause-ends
returns-in-Data-clause-ends g c = rw c.in-Data.is c.of.ensures

pub returns-in-TagName-clause-ends : goal.returns-in-TagName-clause-ends
returns-in-TagName-clause-ends g c = rw c.in-TagName.is c.tag_name_ends.ensures

pub returns-in-AttributeName-clause-ends : goal.returns-in-AttributeName-clause-ends
returns-in-AttributeName-clause-ends g c = rw c.in-AttributeName.is c.attribute_name_ends.ensures

pub returns-in-AttributeValue-clause-ends : goal.returns-in-AttributeValue-clause-ends
returns-in-AttributeValue-clause-ends g c = rw c.in-AttributeValue.is c.value_ends.ensures
