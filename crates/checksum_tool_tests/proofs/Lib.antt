mod SchemaLemmas
